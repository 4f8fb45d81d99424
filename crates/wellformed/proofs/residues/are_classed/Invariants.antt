use mathlib.Core.Path.{◌≡◌}
use lib.ListN.{take}
use Rattle.model.specs.Lent.{lent_in}
use Rattle.wellformed.specs.Slices.{classed_in, residues_classed}
use Rattle.wellformed.specs.Walks.{classed_from}
use Rattle.wellformed.proofs.FromLaws.{rest}
use Rattle.wellformed.proofs.residues.are_classed.Given as goal

abbrev pub invariant-loop-i : goal.invariant-loop-i
invariant-loop-i l =
    residues_classed (lent_in l.records) l.counts
    ≡ classed_from (take l.counts.atoms l.records.atom_keys.now) l.from (rest (classed_in (lent_in l.records)) l.counts.residues l.i)
