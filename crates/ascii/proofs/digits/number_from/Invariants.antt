use mathlib.Core.Path.{◌≡◌}
use Prim.Native.Nat.{◌^◌, ◌≤◌}
use lib.ListN.{drop}
use Rattle.ascii.specs.Digits.{number_from, capped}
use Rattle.ascii.proofs.digits.number_from.Given as goal

abbrev pub invariant-loop-b : goal.invariant-loop-b
invariant-loop-b l = (l.v ≤ 10 ^ 18) × (capped (number_from l.n l.s) ≡ capped (number_from l.v (drop l.b-index l.s)))
