use mathlib.Core.Path.{◌≡◌}
use Rattle.model.specs.Lent.{list_from}
use Rattle.model.specs.WellFormed.{same_list, runs_of}
use Rattle.wellformed.specs.Slices.{entries}
use Rattle.wellformed.proofs.FromLaws.{rest}
use Rattle.wellformed.proofs.runs.residues_run.Given as goal

abbrev pub invariant-loop-i : goal.invariant-loop-i
invariant-loop-i l =
    same_list (runs_of (list_from (entries l.atom_keys) 0 l.atom_count)) (list_from (entries l.residue_keys) 0 l.residue_count)
    ≡ same_list (runs_of (rest (entries l.atom_keys) l.atom_count l.from)) (rest (entries l.residue_keys) l.residue_count l.i)
