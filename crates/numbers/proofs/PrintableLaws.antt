-- The code compares a double with a million either way: a comparison of two finite doubles is one of whole numbers, and no other double passes both.
use mathlib.Core.Path.{◌≡◌, refl, sym, ap, ◌∙◌}
use mathlib.Core.Logic.{◌⊎◌, inl, inr}
use Prim.Native.Nat.{ℕ, ◌+◌, ◌*◌, ◌≤◌, ◌<◌}
use native.Mathlib.Nat.{mul-one}
use native.Mathlib.Omega.{arith}
use mathlib.Core.Bool.{Bool, true, false, ◌&&◌, ◌||◌}
use lib.IntN.{ℤ, pos}
use lib.Dec.{leb, ltb, eqb}
use borrow.Author.Tests.{lt-ltb, le-ltb, le-leb, lt-leb, eq-eqb, ne_eqb}
use lib.Ieee.{Float, nan, inf, fin, up, down, lt, eq, le}
use lib.Ieee.Fits.{down_pos}
use Rattle.numbers.specs.Rounding.{printable}
use Rattle.numbers.proofs.Comparing.{le_or_lt}

-- a million, and minus a million
abbrev top : Float
top = fin false 15625 (pos 6)

abbrev bottom : Float
bottom = fin true 15625 (pos 6)

-- ---- below, or equal by whatever test says so
at_most : (a b : ℕ) (same : Bool) → (a ≡ b → same ≡ true) → ((a ≡ b → ⊥) → same ≡ false) → (ltb a b || (same && true)) ≡ leb a b
at_most a b same if-equal if_not = go (le_or_lt b a) (le_or_lt a b)
  where
    equal : b ≤ a → a ≤ b → a ≡ b
    equal h k = omega arith

    weaken : (a b : ℕ) → a < b → a ≤ b
    weaken a b h = omega arith

    apart : b < a → a ≡ b → ⊥
    apart h e = omega arith

    go : (b ≤ a) ⊎ (a < b) → (a ≤ b) ⊎ (b < a) → (ltb a b || (same && true)) ≡ leb a b
    go (inr h) k = simp (lt-ltb a b h, le-leb a b (weaken a b h))
    go (inl h) (inl k) = simp (le-ltb a b h, if-equal (equal h k), le-leb a b k)
    go (inl h) (inr k) = simp (le-ltb a b h, if_not (apart k), lt-leb a b k)

-- ---- the two comparisons of a finite double
top_positive : (m : ℕ) (e : ℤ) → le (fin false m e) top ≡ leb (m * up e) (1000000 * down e)
unfolding le lt eq
top_positive m e =
    at_most (m * up e * 1) (1000000 * down e) (eqb (m * up e * 1) (1000000 * down e)) (eq-eqb (m * up e * 1) (1000000 * down e)) (ne_eqb (m * up e * 1) (1000000 * down e))
    ∙ ap (λ (x : ℕ). leb x (1000000 * down e)) (mul-one (m * up e))

bottom_negative : (m : ℕ) (e : ℤ) → le bottom (fin true m e) ≡ leb (m * up e) (1000000 * down e)
unfolding le lt eq
bottom_negative m e =
    at_most (m * up e * 1) (1000000 * down e) (eqb (1000000 * down e) (m * up e * 1)) (λ h. eq-eqb (1000000 * down e) (m * up e * 1) (sym h)) (λ n. ne_eqb (1000000 * down e) (m * up e * 1) (λ h. n (sym h)))
    ∙ ap (λ (x : ℕ). leb x (1000000 * down e)) (mul-one (m * up e))

-- one sign against the other
opposite : (a b : ℕ) (z : Bool) → 0 < a + b → (ltb 0 (a + b) || z) ≡ true
opposite a b z h = ap (λ (t : Bool). t || z) (lt-ltb 0 (a + b) h)

top_negative : (m : ℕ) (e : ℤ) → le (fin true m e) top ≡ true
unfolding le lt eq
top_negative m e = opposite (m * up e * 1) (1000000 * down e) _ (some (m * up e * 1) (down e) (down_pos e))
  where
    some : (a d : ℕ) → 0 < d → 0 < a + 1000000 * d
    some a d h = omega arith

bottom_positive : (m : ℕ) (e : ℤ) → le bottom (fin false m e) ≡ true
unfolding le lt eq
bottom_positive m e = opposite (1000000 * down e) (m * up e * 1) _ (some (m * up e * 1) (down e) (down_pos e))
  where
    some : (a d : ℕ) → 0 < d → 0 < 1000000 * d + a
    some a d h = omega arith

-- ---- both together
never : false ≡ true → ⊥
never e = let z : ◌≡◌ {A = ℕ} 0 1 = cc in omega arith

pub printable_below : (x : Float) → le x top ≡ true → le bottom x ≡ printable x
unfolding printable le lt eq
printable_below nan h = absurd (never h)
printable_below (inf true) h = refl
printable_below (inf false) h = absurd (never h)
printable_below (fin true m e) h = bottom_negative m e
printable_below (fin false m e) h = bottom_positive m e ∙ sym (sym (top_positive m e) ∙ h)

pub printable_above : (x : Float) → le x top ≡ false → printable x ≡ false
unfolding printable
printable_above nan h = refl
printable_above (inf s) h = refl
printable_above (fin true m e) h = absurd (never (sym h ∙ top_negative m e))
printable_above (fin false m e) h = sym (top_positive m e) ∙ h
