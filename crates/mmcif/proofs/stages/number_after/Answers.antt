-- A sum that stays at the greatest number is one more below it.
use mathlib.Core.Path.{◌≡◌, refl, ◌∙◌}
use mathlib.Core.Bool.{Bool, true, false, cond}
use Prim.Native.Nat.{ℕ, suc, min, ◌+◌, ◌-◌, ◌^◌, ◌≤◌, ◌<◌}
use native.Mathlib.Omega.{arith}
use lib.Dec.{ltb}
use borrow.Author.Tests.{ltb-true, ltb-false}
use Rattle.mmcif.specs.Stages.{number_after}
use Rattle.mmcif.proofs.stages.number_after.Goals as goal

saturates : (n : ℕ) → n < 2 ^ 64 → (b : Bool) → (b ≡ true → n < 18446744073709551615) → (b ≡ false → 18446744073709551615 ≤ n) → min (n + 1) (2 ^ 64 - 1) ≡ cond b (suc n) n
saturates n small true below from = omega (arith, below refl)
saturates n small false below from = omega (arith, from refl)

pub returns : goal.returns
unfolding number_after
returns c =
    let n = c.args.number in
    c.saturating_add.ensures ∙ saturates n (omega arith) (ltb n 18446744073709551615) (ltb-true n 18446744073709551615) (ltb-false n 18446744073709551615)
