-- One division of two whole numbers that the format holds is `round` of their fraction, and `neg` is `round` with the other sign. Assumes nothing.
use mathlib.Core.Path.{◌≡◌, refl, sym, ap, ◌∙◌, subst}
use Prim.Native.Nat.{ℕ, zero, suc, ◌+◌, ◌-◌, ◌*◌, ◌/◌, ◌%◌, ◌^◌, ◌≤◌, ◌<◌, compare}
use native.Mathlib.Nat.{lt_irrefl, mul_assoc, mul_comm, mul-one, mul-pos, zero-mul}
use native.Mathlib.Omega.{arith}
use mathlib.Core.Bool.{Bool, true, false, cond}
use lib.IntN.{pos}
use lib.Dec.{ltb, eqb, eqb-suc-zero}
use lib.Ieee.{Float, nan, inf, fin, Format, binary64, prec, emax, low, up, down, unlike, size, nearest, odd, units, round, neg, div, of_int}
use lib.Ieee.Fits.{down_pos, up_pos, round_is}
use lib.Ieee.Exact.{HasValue}
use lib.Ieee.Back.{round_whole}
use lib.Ieee.Scale.{round_same}

-- ---- the sign
neg_odd : (d q k l : ℕ) → neg (odd d false q k l) ≡ odd d true q k l
unfolding neg odd
neg_odd d zero k l = refl
neg_odd d (suc q) k l = refl

neg_units : (f : Format) (q k : ℕ) → neg (units f false q k) ≡ units f true q k
unfolding units
neg_units f q k = go (ltb (q * 2 ^ k) (2 ^ (low f + suc (emax f))))
  where
    go : (b : Bool) → neg (cond b (odd (suc (prec f)) false q k (low f)) (inf false)) ≡ cond b (odd (suc (prec f)) true q k (low f)) (inf true)
    go true = neg_odd (suc (prec f)) q k (low f)
    go false = unfold neg in refl

pub neg_round : (f : Format) (a b : ℕ) → neg (round f false a b) ≡ round f true a b
neg_round f a b =
    let n = a * 2 ^ low f in
    let k = size (n / b) - prec f in
    let u = b * 2 ^ k in
    ap neg (round_is f false a b) ∙ neg_units f (nearest (n / u) (compare (n % u * 2) u)) k ∙ sym (round_is f true a b)

-- ---- the quotient
no_zero : (n u b d : ℕ) → n ≡ 0 → n * u * 1 ≡ b * d → 0 < b * d → ⊥
no_zero n u b d z e h = lt_irrefl 0 (subst (λ (x : ℕ). 0 < x) (sym e ∙ mul-one (n * u) ∙ ap (λ (x : ℕ). x * u) z ∙ zero-mul u) h)

-- X / (de) is a, Y / (dd) is b: the cross products of the two ways to write a / b
cross : (X Y a b de dd : ℕ) → X * 1 ≡ a * de → Y * 1 ≡ b * dd → X * dd * b ≡ a * (Y * de)
cross X Y a b de dd e g =
    ap (λ (x : ℕ). x * dd * b) (sym (mul-one X) ∙ e)
    ∙ mul_assoc (a * de) dd b
    ∙ mul_assoc a de (dd * b)
    ∙ ap (λ (x : ℕ). a * x) (mul_comm de (dd * b) ∙ ap (λ (x : ℕ). x * de) (mul_comm dd b ∙ sym g ∙ mul-one Y))

pub div_at : (f : Format) (x y : Float) (a b : ℕ) → 0 < b → HasValue x false a 1 → HasValue y false b 1 → div f x y ≡ round f false a b
unfolding div
div_at f nan y a b B h k = absurd h
div_at f (inf s) y a b B h k = absurd h
div_at f (fin s m e) nan a b B h k = absurd k
div_at f (fin s m e) (inf t) a b B h k = absurd k
div_at f (fin s m e) (fin t zero d) a b B h k = absurd (no_zero zero (up d) b (down d) refl k.1 (mul-pos B (down_pos d)))
div_at f (fin s m e) (fin t (suc n) d) a b B h k =
    ap (λ (z : Bool). cond z (cond (eqb m 0) nan (inf (unlike s t))) (round f (unlike s t) (m * up e * down d) (suc n * up d * down e))) (eqb-suc-zero n)
    ∙ ap (λ (z : Bool). round f (unlike z t) (m * up e * down d) (suc n * up d * down e)) h.0
    ∙ ap (λ (z : Bool). round f (unlike false z) (m * up e * down d) (suc n * up d * down e)) k.0
    ∙ round_same f false (m * up e * down d) (suc n * up d * down e) a b (mul-pos (mul-pos (pos_suc n) (up_pos d)) (down_pos e)) B
    (cross (m * up e) (suc n * up d) a b (down e) (down d) h.1 k.1)
  where
    pos_suc : (n : ℕ) → 0 < suc n
    pos_suc n = omega arith

of_int_is : (f : Format) (n : ℕ) → round f false n 1 ≡ of_int f (pos n)
unfolding of_int
of_int_is f n = refl

-- the law that the code rests on: w as f64 / p as f64
pub quotient_is : (w p : ℕ) → w ≤ 2 ^ 53 → 0 < p → p ≤ 2 ^ 53 → div binary64 (of_int binary64 (pos w)) (of_int binary64 (pos p)) ≡ round binary64 false w p
quotient_is w p W P Q =
    div_at binary64 (of_int binary64 (pos w)) (of_int binary64 (pos p)) w p P
    (subst (λ (x : Float). HasValue x false w 1) (of_int_is binary64 w) (round_whole binary64 false w W))
    (subst (λ (x : Float). HasValue x false p 1) (of_int_is binary64 p) (round_whole binary64 false p Q))
