use mathlib.Core.Path.{◌≡◌}
use Prim.Native.Nat.{◌-◌, ◌≤◌}
use Rattle.names.specs.Places.{ascends}
use Rattle.model.specs.Keys.{atom_place}
use Rattle.model.specs.Lent.{list_from}
use Rattle.wellformed.specs.Slices.{entries}
use Rattle.wellformed.proofs.FromLaws.{rest}
use Rattle.wellformed.proofs.order.atoms_ascend.Given as goal

abbrev pub invariant-loop-i : goal.invariant-loop-i
invariant-loop-i l = (1 ≤ l.i) × (ascends (list_from (λ k. atom_place (entries l.keys k) (entries l.names k)) 0 l.n) ≡ ascends (rest (λ k. atom_place (entries l.keys k) (entries l.names k)) l.n (l.i - 1)))
