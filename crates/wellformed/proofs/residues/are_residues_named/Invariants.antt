use mathlib.Core.Path.{◌≡◌}
use Rattle.model.specs.Lent.{list_from}
use Rattle.ascii.specs.Lists.{every}
use Rattle.wellformed.specs.Slices.{entries, is_residue_named}
use Rattle.wellformed.proofs.FromLaws.{rest}
use Rattle.wellformed.proofs.residues.are_residues_named.Given as goal

abbrev pub invariant-loop-i : goal.invariant-loop-i
invariant-loop-i l = every (λ k. is_residue_named (entries l.keys k) (entries l.names k)) (list_from (λ k. k) 0 l.n) ≡ every (λ k. is_residue_named (entries l.keys k) (entries l.names k)) (rest (λ k. k) l.n l.i)
