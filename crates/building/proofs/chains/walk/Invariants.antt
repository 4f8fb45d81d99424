use mathlib.Core.Path.{◌≡◌}
use Prim.Native.Nat.{◌+◌}
use lib.ListN.{take, drop}
use Rattle.model.specs.Chains.{chain_place}
use Rattle.building.proofs.chains.walk.Given as goal

abbrev pub invariant-loop-i : goal.invariant-loop-i
invariant-loop-i l = l.from + chain_place l.name (drop l.from (take l.n l.chains)) ≡ l.i + chain_place l.name (drop l.i (take l.n l.chains))
