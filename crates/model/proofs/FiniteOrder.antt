-- Finite doubles are in one order: `below` compares m * 2 ^ e and n * 2 ^ d as whole numbers over one denominator, and a third double only needs all
-- three over one denominator.
use mathlib.Core.Path.{◌≡◌, refl, sym, ap, ◌∙◌}
use mathlib.Core.Bool.{Bool, true, false, false≢true}
use Prim.Native.Nat.{ℕ, ◌+◌, ◌*◌, ◌<◌}
use native.Mathlib.Nat.{mul_right_comm, add-mul, zero-mul, mul-lt-mul_of_pos_right, lt_of_mul-lt-mul_right}
use native.Mathlib.Omega.{arith}
use lib.Dec.{ltb}
use lib.Ieee.{Float, nan, inf, fin, lt, below, up, down}
use lib.Ieee.Fits.{down_pos}
use borrow.Author.Tests.{ltb-true, ltb-false, lt-ltb, le-ltb}
use Rattle.model.specs.Proper.{Finite}
use Rattle.model.proofs.ListLaws.{same_test}

-- ---- whole numbers with a sign
scale_ltb : (a b r : ℕ) → 0 < r → ltb (a * r) (b * r) ≡ ltb a b
scale_ltb a b r h = same_test _ _ (λ e. lt-ltb a b (lt_of_mul-lt-mul_right r (ltb-true (a * r) (b * r) e))) (λ e. lt-ltb (a * r) (b * r) (mul-lt-mul_of_pos_right (ltb-true a b e) h))

scale : (s t : Bool) (a b r : ℕ) → 0 < r → below s (a * r) t (b * r) ≡ below s a t b
scale false false a b r h = scale_ltb a b r h
scale false true a b r h = refl
scale true false a b r h = ap (ltb 0) (sym (add-mul a b r)) ∙ ap (λ (x : ℕ). ltb x ((a + b) * r)) (sym (zero-mul r)) ∙ scale_ltb 0 (a + b) r h
scale true true a b r h = scale_ltb b a r h

below_through : (s t u : Bool) (a b c : ℕ) → below s a t b ≡ true → below s a u c ≡ false → below u c t b ≡ true
below_through false false false a b c p q = lt-ltb c b (omega (arith, ltb-true a b p, ltb-false a c q))
below_through false false true a b c p q = lt-ltb 0 (c + b) (omega (arith, ltb-true a b p))
below_through false true u a b c p q = absurd (false≢true p)
below_through true false false a b c p q = lt-ltb c b (omega (arith, ltb-true 0 (a + b) p, ltb-false 0 (a + c) q))
below_through true false true a b c p q = lt-ltb 0 (c + b) (omega (arith, ltb-true 0 (a + b) p, ltb-false c a q))
below_through true true false a b c p q = absurd (omega (arith, ltb-true b a p, ltb-false 0 (a + c) q))
below_through true true true a b c p q = lt-ltb b c (omega (arith, ltb-true b a p, ltb-false c a q))

below_back : (s t : Bool) (a b : ℕ) → below s a t b ≡ true → below t b s a ≡ false
below_back false false a b p = le-ltb b a (omega (arith, ltb-true a b p))
below_back false true a b p = absurd (false≢true p)
below_back true false a b p = refl
below_back true true a b p = le-ltb a b (omega (arith, ltb-true b a p))

-- ---- doubles

-- y is not below x
pub not_back : (x y : Float) → Finite x → Finite y → lt x y ≡ true → lt y x ≡ false
unfolding lt
not_back nan y f g p = absurd f
not_back (inf s) y f g p = absurd f
not_back (fin s m e) nan f g p = absurd g
not_back (fin s m e) (inf t) f g p = absurd g
not_back (fin s m e) (fin t n d) f g p = below_back s t (m * up e * down d) (n * up d * down e) p

pub not_self : (x : Float) → Finite x → lt x x ≡ false
not_self x f = go (lt x x) refl
  where
    go : (b : Bool) → lt x x ≡ b → lt x x ≡ false
    go true e = not_back x x f f e
    go false e = e

-- z is at most x, and so below y
pub below_too : (x y z : Float) → Finite x → Finite y → Finite z → lt x y ≡ true → lt x z ≡ false → lt z y ≡ true
unfolding lt
below_too nan y z f g h p q = absurd f
below_too (inf s) y z f g h p q = absurd f
below_too (fin s m e) nan z f g h p q = absurd g
below_too (fin s m e) (inf t) z f g h p q = absurd g
below_too (fin s m e) (fin t n d) nan f g h p q = absurd h
below_too (fin s m e) (fin t n d) (inf u) f g h p q = absurd h
below_too (fin s m e) (fin t n d) (fin u k c) f g h p q =
    go (m * up e) (n * up d) (k * up c) (down e) (down d) (down c) (down_pos e) (down_pos d) (down_pos c) p q
  where
    go : (a b c x y z : ℕ) → 0 < x → 0 < y → 0 < z → below s (a * y) t (b * x) ≡ true → below s (a * z) u (c * x) ≡ false → below u (c * y) t (b * z) ≡ true
    go a b c x y z X Y Z i j =
        sym (scale u t (c * y) (b * z) x X)
        ∙ ap (λ (w : ℕ). below u (c * y * x) t w) (mul_right_comm b z x)
        ∙ ap (λ (w : ℕ). below u w t (b * x * z)) (mul_right_comm c y x)
        ∙ below_through s t u (a * y * z) (b * x * z) (c * x * y) (scale s t (a * y) (b * x) z Z ∙ i)
        (ap (λ (w : ℕ). below s w u (c * x * y)) (mul_right_comm a y z) ∙ scale s u (a * z) (c * x) y Y ∙ j)
