use mathlib.Core.Path.{◌≡◌}
use Prim.Native.Nat.{◌-◌, ◌≤◌}
use Rattle.names.specs.Places.{ascends}
use Rattle.model.specs.Lent.{list_from}
use Rattle.wellformed.specs.Slices.{entries}
use Rattle.wellformed.proofs.FromLaws.{rest}
use Rattle.wellformed.proofs.order.residues_ascend.Given as goal

abbrev pub invariant-loop-i : goal.invariant-loop-i
invariant-loop-i l = (1 ≤ l.i) × (ascends (list_from (entries l.keys) 0 l.n) ≡ ascends (rest (entries l.keys) l.n (l.i - 1)))
