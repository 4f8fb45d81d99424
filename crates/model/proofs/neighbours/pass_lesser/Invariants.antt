use mathlib.Core.Path.{◌≡◌}
use Prim.Native.Nat.{◌+◌}
use lib.ListN.{take, drop}
use Rattle.model.specs.Neighbours.{lessers}
use Rattle.model.proofs.neighbours.pass_lesser.Given as goal

abbrev pub invariant-loop-i : goal.invariant-loop-i
invariant-loop-i l = l.from + lessers l.key (drop l.from (take l.n l.keys)) ≡ l.i + lessers l.key (drop l.i (take l.n l.keys))
