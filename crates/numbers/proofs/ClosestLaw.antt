-- `closest num den` is the whole number nearest to num / den, ties to even: it is at most half a step away, and half a step only where it is even;
-- every other whole number is a whole step away from it, so at least half a step from num / den.
use mathlib.Core.Path.{◌≡◌, sym, ap, ◌∙◌, subst}
use mathlib.Core.Logic.{◌⊎◌, inl, inr}
use Prim.Native.Nat.{ℕ, suc, ◌+◌, ◌*◌, ◌/◌, ◌%◌, ◌≤◌, ◌<◌, compare, Ordering}
use native.Mathlib.Nat.{le_trans, le_of_eq, le_of_lt, lt_irrefl, suc-mul, mul-le-mul_right, div-add-mod', mod-lt}
use native.Mathlib.Omega.{arith}
use lib.Ieee.{nearest}
use lib.Ieee.Nearest.{closest}
use Rattle.numbers.specs.Nearest.{dist, NearestWhole}
use Rattle.numbers.proofs.Comparing.{Compared, compared, le_or_lt}

-- ---- half a step

-- num / den is r above a: at most a half below the next multiple of den, at most a half above this one
abbrev Half : ℕ → ℕ → ℕ → Type 0
Half num den q = (dist num (q * den) * 2 ≤ den) × (dist num (q * den) * 2 ≡ den → q % 2 ≡ 0)

above : (num a r den : ℕ) → num ≡ a + r → r * 2 ≤ den → (dist num a * 2 ≤ den) × (dist num a * 2 ≡ den → r * 2 ≡ den)
above num a r den e h = (omega arith, λ k. omega arith)

under : (num a r den : ℕ) → num ≡ a + r → r < den → den ≤ r * 2 → (dist num (a + den) * 2 ≤ den) × (dist num (a + den) * 2 ≡ den → r * 2 ≡ den)
under num a r den e l h = (omega arith, λ k. omega arith)

even_tie : (q : ℕ) → (q + q % 2) % 2 ≡ 0
even_tie q = omega arith

half_at : (num den q r : ℕ) (o : Ordering) → num ≡ q * den + r → r < den → Compared o (r * 2) den → Half num den (nearest q o)
half_at num den q r Ordering.lt e l h = let w = above num (q * den) r den e (le_of_lt h) in (w.0, λ k. absurd (never h (w.1 k)))
  where
    never : r * 2 < den → r * 2 ≡ den → ⊥
    never a b = omega arith
half_at num den q r Ordering.eq e l h = (go (le_or_lt (q % 2) 0), λ k. even_tie q)
  where
    stays : q % 2 ≤ 0 → q + q % 2 ≡ q
    stays k = omega arith

    moves : 0 < q % 2 → q + q % 2 ≡ suc q
    moves k = omega arith

    go : (q % 2 ≤ 0) ⊎ (0 < q % 2) → dist num ((q + q % 2) * den) * 2 ≤ den
    go (inl k) = subst (λ (x : ℕ). dist num x * 2 ≤ den) (ap (λ (x : ℕ). x * den) (sym (stays k))) (above num (q * den) r den e (le_of_eq h)).0
    go (inr k) = subst (λ (x : ℕ). dist num x * 2 ≤ den) (sym (ap (λ (x : ℕ). x * den) (moves k) ∙ suc-mul q den)) (under num (q * den) r den e l (le_of_eq (sym h))).0
half_at num den q r Ordering.gt e l h =
    let w = subst (λ (x : ℕ). (dist num x * 2 ≤ den) × (dist num x * 2 ≡ den → r * 2 ≡ den)) (sym (suc-mul q den)) (under num (q * den) r den e l (le_of_lt h)) in
    (w.0, λ k. absurd (never h (w.1 k)))
  where
    never : den < r * 2 → r * 2 ≡ den → ⊥
    never a b = omega arith

half : (num den : ℕ) → 0 < den → Half num den (closest num den)
half num den D = half_at num den (num / den) (num % den) (compare (num % den * 2) den) (sym (div-add-mod' num den)) (mod-lt num D) (compared (num % den * 2) den)

-- ---- a whole step
apart : (z q den : ℕ) → (z ≡ q → ⊥) → den ≤ dist (q * den) (z * den)
apart z q den n = go (le_or_lt (suc z) q) (le_or_lt (suc q) z)
  where
    step : (a b : ℕ) → suc a ≤ b → a * den + den ≤ b * den
    step a b h = le_trans (le_of_eq (sym (suc-mul a den))) (mul-le-mul_right den h)

    below : (x y : ℕ) → y + den ≤ x → den ≤ dist x y
    below x y h = omega arith

    beyond : (x y : ℕ) → x + den ≤ y → den ≤ dist x y
    beyond x y h = omega arith

    same : q < suc z → z < suc q → z ≡ q
    same a b = omega arith

    go : (suc z ≤ q) ⊎ (q < suc z) → (suc q ≤ z) ⊎ (z < suc q) → den ≤ dist (q * den) (z * den)
    go (inl a) b = below (q * den) (z * den) (step z q a)
    go (inr a) (inl b) = beyond (q * den) (z * den) (step q z b)
    go (inr a) (inr b) = absurd (n (same a b))

-- ---- the law
pub closest_is_nearest : (num den : ℕ) → 0 < den → NearestWhole num den (closest num den)
closest_is_nearest num den D = record {
  closest = λ z. nearer z (le_or_lt (dist num (closest num den * den)) (dist num (z * den)));
  even = λ z h n. (half num den D).1 (exact (closest num den * den) (z * den) (half num den D).0 (apart z (closest num den) den n) h);
}
  where
    never : (x y : ℕ) → dist num x * 2 ≤ den → den ≤ dist x y → dist num y < dist num x → ⊥
    never x y a b c = omega arith

    exact : (x y : ℕ) → dist num x * 2 ≤ den → den ≤ dist x y → dist num y ≤ dist num x → dist num x * 2 ≡ den
    exact x y a b c = omega arith

    other : (z : ℕ) → dist num (z * den) < dist num (closest num den * den) → z ≡ closest num den → ⊥
    other z h e = lt_irrefl _ (subst (λ (y : ℕ). dist num (y * den) < dist num (closest num den * den)) e h)

    nearer : (z : ℕ) → (dist num (closest num den * den) ≤ dist num (z * den)) ⊎ (dist num (z * den) < dist num (closest num den * den)) → dist num (closest num den * den) ≤ dist num (z * den)
    nearer z (inl h) = h
    nearer z (inr h) = absurd (never (closest num den * den) (z * den) (half num den D).0 (apart z (closest num den) den (other z h)) h)
