use mathlib.Core.Path.{◌≡◌}
use Rattle.model.specs.Lent.{list_from}
use Rattle.wellformed.specs.Slices.{standing_in}
use Rattle.wellformed.specs.Walks.{stands_from}
use Rattle.wellformed.proofs.FromLaws.{rest}
use Rattle.wellformed.proofs.residues.are_positioned.Given as goal

abbrev pub invariant-loop-i : goal.invariant-loop-i
invariant-loop-i l = stands_from 0 (list_from (standing_in l.keys l.codes l.positions) 0 l.n) ≡ stands_from l.met (rest (standing_in l.keys l.codes l.positions) l.n l.i)
