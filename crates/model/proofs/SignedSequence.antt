-- A sequence number with 2 ^ 31 taken off is the number again with 2 ^ 31 put back, keeps its order, and fits 32 bits with a sign where the number fits them
-- without: what is below 2 ^ 31 becomes negative, the rest does not.
use mathlib.Core.Path.{◌≡◌, refl}
use mathlib.Core.Bool.{Bool, true, false, cond}
use Prim.Native.Nat.{ℕ, suc, ◌-◌, ◌^◌, ◌<◌}
use native.Mathlib.Omega.{arith}
use lib.Dec.{ltb, lt→ltb}
use lib.IntN.{ℤ, pos, negsuc, ◌+ℤ◌, -ℤ-+ℤ_cancel}
use lib.Signed.{◌<ℤ◌}
use mir.Syntax.{w32}
use mir.Val.{SFits}
use borrow.Author.Tests.{ltb-true, ltb-false}
use Rattle.model.specs.TakenOut.{signed}

pub moved_up_again : (n : ℕ) → signed n +ℤ pos (2 ^ 31) ≡ pos n
unfolding signed
moved_up_again n = -ℤ-+ℤ_cancel (pos n) (pos (2 ^ 31))

-- by whether it is below 2 ^ 31
abbrev signed_by : Bool → ℕ → ℤ
signed_by below n = cond below (negsuc (2 ^ 31 - suc n)) (pos (n - 2 ^ 31))

pub order_kept : (n m : ℕ) → n < m → signed n <ℤ signed m
unfolding signed
order_kept n m h = go (ltb n (2 ^ 31)) refl (ltb m (2 ^ 31)) refl
  where
    go : (t : Bool) → ltb n (2 ^ 31) ≡ t → (u : Bool) → ltb m (2 ^ 31) ≡ u → signed_by t n <ℤ signed_by u m
    go true p true q = record { lt = lt→ltb (2 ^ 31 - suc m) (2 ^ 31 - suc n) (omega (arith, ltb-true m (2 ^ 31) q)) }
    go true p false q = record { lt = tt }
    go false p true q = absurd (omega (arith, ltb-false n (2 ^ 31) p, ltb-true m (2 ^ 31) q))
    go false p false q = record { lt = lt→ltb (n - 2 ^ 31) (m - 2 ^ 31) (omega (arith, ltb-false n (2 ^ 31) p)) }

pub signed_fits : (n : ℕ) → n < 2 ^ 32 → SFits w32 (signed n)
unfolding signed
signed_fits n h = go (ltb n (2 ^ 31))
  where
    go : (t : Bool) → SFits w32 (signed_by t n)
    go true = record { sfits = omega arith }
    go false = record { sfits = omega arith }
