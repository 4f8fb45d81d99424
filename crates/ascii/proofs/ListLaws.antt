-- What every layer needs of lists and finds nowhere else: a slice's tail, what stands past the end, the first byte.
use mathlib.Core.Path.{◌≡◌, refl, sym, ◌∙◌}
use mathlib.Core.List.{List, [], ◌∷◌}
use mathlib.Core.Bool.{Bool, true, false}
use Prim.Native.Nat.{ℕ, zero, suc, ◌-◌, ◌≤◌}
use native.Mathlib.Nat.{le_of_eq}
use native.Mathlib.Omega.{arith}
use lib.ListN.{length, get_or, take, drop, length-drop}
use lib.Seq.{take_all}
use Rattle.ascii.specs.Bytes.{first}

-- the part of a list from n on, as a slice `&s[n..]` has it
pub tail_is : (n : ℕ) (l : List ℕ) → take (length l - n) (drop n l) ≡ drop n l
tail_is n l = take_all (length l - n) (drop n l) (le_of_eq (length-drop n l))

-- past the end there is nothing
pub get_d_past : (l : List ℕ) (i : ℕ) → length l ≤ i → get_or l i 0 ≡ 0
get_d_past [] i h = refl
get_d_past (x ∷ l) zero h = absurd (none (length l) h)
  where
    none : (n : ℕ) → suc n ≤ 0 → ⊥
    none n h = omega arith
get_d_past (x ∷ l) (suc i) h = get_d_past l i (less (length l) h)
  where
    less : (n : ℕ) → suc n ≤ suc i → n ≤ i
    less n h = omega arith

-- a text whose first byte passes a test that 0 does not pass has a first byte
pub some_passes : (test : ℕ → Bool) (s : List ℕ) → test 0 ≡ false → test (first s) ≡ true → 1 ≤ length s
some_passes test [] f t = absurd (differ (sym f ∙ t))
  where
    differ : false ≡ true → ⊥
    differ e = let z : ◌≡◌ {A = ℕ} 0 1 = cc in omega arith
some_passes test (b ∷ s) f t = some (length s)
  where
    some : (n : ℕ) → 1 ≤ suc n
    some n = omega arith
