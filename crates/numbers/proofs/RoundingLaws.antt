-- The units of a printable double, from its bits: they are significand * 10 ^ places over 2 ^ (1074 - exponent), to the nearest whole number.
use mathlib.Core.Path.{◌≡◌, sym, ap, ◌∙◌, subst}
use Prim.Native.Nat.{ℕ, zero, suc, ◌+◌, ◌-◌, ◌*◌, ◌/◌, ◌%◌, ◌^◌, ◌≤◌, ◌<◌, compare}
use native.Mathlib.Nat.{le_trans, le_of_eq, lt_irrefl, lt_of_le_of_lt, mul_assoc, mul_right_comm, mul-le-mul_right, mul-le-mul_left, le_of_mul-le-mul_right, eq_of_mul-eq-mul_right, div-eq_of_lt, div-mul-le_self, div-add-mod', mod-eq_of_lt, mod-lt, le-add_right, one-mul}
use native.Mathlib.Numerals.{add-one}
use native.Mathlib.Omega.{arith}
use mathlib.Core.Bool.{Bool, true, false, not}
use lib.Dec.{T, leb, leb→le, nleb→lt, lit<}
use lib.Pow.{pow-add, pow_pos, pow_mono, pow-lt}
use lib.Ieee.{Float, nan, inf, fin, binary64, up, down, nearest, fits, is_nan, to_bits}
use lib.Ieee.Fits.{down_pos}
use lib.Ieee.Exact.{HasValue}
use lib.Ieee.Nearest.{closest, closest_same}
use lib.Ieee.Scale.{finite}
use Rattle.numbers.specs.Bits.{exponent_field, significand_at, exponent_at, significand_of, exponent_of}
use Rattle.numbers.specs.Rounding.{printable, units_of, is_negative}
use Rattle.numbers.proofs.BitsLaws.{bits_value}
use Rattle.numbers.proofs.Comparing.{nearest_lt, nearest_gt, nearest_eq}

-- ---- what is printable is finite, and not too far
pub printable_finite : (x : Float) → T (printable x) → T (finite x)
unfolding printable
printable_finite nan h = absurd h
printable_finite (inf s) h = absurd h
printable_finite (fin s m e) h = tt

pub printable_number : (x : Float) → T (printable x) → T (not (is_nan x))
unfolding printable is_nan
printable_number nan h = absurd h
printable_number (inf s) h = absurd h
printable_number (fin s m e) h = tt

-- in smallest doubles it is a million times 2 ^ 1074 at most
printable_value : (x : Float) (s : Bool) (a : ℕ) → T (printable x) → HasValue x s a (2 ^ 1074) → a ≤ 1000000 * 2 ^ 1074
unfolding printable
printable_value nan s a h v = absurd h
printable_value (inf t) s a h v = absurd h
printable_value (fin t m e) s a h v =
    le_of_mul-le-mul_right
    (le_trans (le_of_eq (sym v.1)) (le_trans (mul-le-mul_right (2 ^ 1074) (leb→le (m * up e) (1000000 * down e) h)) (le_of_eq (mul_right_comm 1000000 (down e) (2 ^ 1074)))))
    (down_pos e)

exponent_below : (field fraction : ℕ) → significand_at field fraction * 2 ^ exponent_at field ≤ 1000000 * 2 ^ 1074 → exponent_at field < 1042
exponent_below zero fraction h = lit< tt
exponent_below (suc field) fraction h = go (leb 1042 field) (leb→le 1042 field) (nleb→lt 1042 field)
  where
    go : (b : Bool) → (T b → 1042 ≤ field) → (T (not b) → field < 1042) → field < 1042
    go true a n =
        absurd (lt_irrefl (2 ^ 1094)
        (lt_of_le_of_lt (le_trans (le_of_eq (pow-add 2 52 1042)) (le_trans (mul-le-mul_right (2 ^ 1042) (le-add_right (2 ^ 52) fraction)) (le_trans (mul-le-mul_left (2 ^ 52 + fraction) (pow_mono (a tt))) h))) (lit< {m = 1000000 * 2 ^ 1074} {n = 2 ^ 1094} tt)))
    go false a n = n tt

pub exponent_fits : (x : Float) → T (fits binary64 x) → T (printable x) → exponent_of (to_bits binary64 x) < 1042
exponent_fits x h k =
    let bits = to_bits binary64 x in
    exponent_below (exponent_field bits) (bits % 2 ^ 52) (printable_value x (leb (2 ^ 63) bits) (significand_of bits * 2 ^ exponent_of bits) k (bits_value x h (printable_finite x k)))

-- ---- the units
value_units : (places : ℕ) (x : Float) (s : Bool) (m k : ℕ) → k ≤ 1074 → HasValue x s (m * 2 ^ k) (2 ^ 1074) → units_of places x ≡ closest (m * 10 ^ places) (2 ^ (1074 - k))
unfolding units_of
value_units places nan s m k h v = absurd v
value_units places (inf t) s m k h v = absurd v
value_units places (fin t n e) s m k h v = closest_same (n * up e * 10 ^ places) (down e) (m * 10 ^ places) (2 ^ (1074 - k)) (down_pos e) (pow_pos (1074 - k)) cross
  where
    split : 2 ^ (1074 - k) * 2 ^ k ≡ 2 ^ 1074
    split = sym (pow-add 2 (1074 - k) k) ∙ ap (λ (z : ℕ). 2 ^ z) (back k h)
      where
        back : (k : ℕ) → k ≤ 1074 → 1074 - k + k ≡ 1074
        back k h = omega arith

    plain : n * up e * 2 ^ (1074 - k) ≡ m * down e
    plain =
        eq_of_mul-eq-mul_right (2 ^ k) (pow_pos k) (n * up e * 2 ^ (1074 - k)) (m * down e)
        (mul_assoc (n * up e) (2 ^ (1074 - k)) (2 ^ k) ∙ ap (λ (z : ℕ). n * up e * z) split ∙ v.1 ∙ mul_right_comm m (2 ^ k) (down e))

    cross : n * up e * 10 ^ places * 2 ^ (1074 - k) ≡ m * 10 ^ places * down e
    cross = mul_right_comm (n * up e) (10 ^ places) (2 ^ (1074 - k)) ∙ ap (λ (z : ℕ). z * 10 ^ places) plain ∙ mul_right_comm m (down e) (10 ^ places)

pub bits_units : (places : ℕ) (x : Float) → T (fits binary64 x) → T (printable x)
    → units_of places x ≡ closest (significand_of (to_bits binary64 x) * 10 ^ places) (2 ^ (1074 - exponent_of (to_bits binary64 x)))
bits_units places x h k =
    let bits = to_bits binary64 x in
    value_units places x (leb (2 ^ 63) bits) (significand_of bits) (exponent_of bits) (more (exponent_of bits) (exponent_fits x h k)) (bits_value x h (printable_finite x k))
  where
    more : (z : ℕ) → z < 1042 → z ≤ 1074
    more z h = omega arith

-- as the code has them: the significand m, the power p and the exponent k
pub units_from : (places : ℕ) (x : Float) (m p k : ℕ) → T (fits binary64 x) → T (printable x) → m ≡ significand_of (to_bits binary64 x) → p ≡ 10 ^ places → k ≡ exponent_of (to_bits binary64 x)
    → closest (m * p) (2 ^ (1074 - k)) ≡ units_of places x
units_from places x m p k h r M P K =
    ap (λ (z : ℕ). closest (z * p) (2 ^ (1074 - k))) M
    ∙ ap (λ (z : ℕ). closest (significand_of (to_bits binary64 x) * z) (2 ^ (1074 - k))) P
    ∙ ap (λ (z : ℕ). closest (significand_of (to_bits binary64 x) * 10 ^ places) (2 ^ (1074 - z))) K
    ∙ sym (bits_units places x h r)

-- less than half a unit is none
pub closest_zero : (n d : ℕ) → n * 2 < d → closest n d ≡ 0
closest_zero n d h =
    ap (λ (q : ℕ). nearest q (compare (n % d * 2) d)) (div-eq_of_lt (less n d h))
    ∙ ap (λ (r : ℕ). nearest 0 (compare (r * 2) d)) (mod-eq_of_lt (less n d h))
    ∙ nearest_lt 0 (n * 2) d h
  where
    less : (n d : ℕ) → n * 2 < d → n < d
    less n d h = omega arith

-- ---- the sign
value_sign : (x : Float) (s : Bool) (a c : ℕ) → HasValue x s a c → s ≡ is_negative x
unfolding is_negative
value_sign nan s a c v = absurd v
value_sign (inf t) s a c v = absurd v
value_sign (fin t m e) s a c v = sym v.0

pub bits_sign : (x : Float) → T (fits binary64 x) → T (printable x) → leb (2 ^ 63) (to_bits binary64 x) ≡ is_negative x
bits_sign x h k = value_sign x _ _ _ (bits_value x h (printable_finite x k))

-- ---- shifts
pub shifted_one : (n : ℕ) → n < 64 → 1 * 2 ^ n % 18446744073709551616 ≡ 2 ^ n
shifted_one n h = ap (λ (z : ℕ). z % 18446744073709551616) (one-mul (2 ^ n)) ∙ mod-eq_of_lt (pow-lt h)

-- a number shifted to the right and back is what its last k bits leave of it
pub shifted_back : (n k : ℕ) → n < 9223372036854775808 → n / 2 ^ k * 2 ^ k % 18446744073709551616 + n % 2 ^ k ≡ n
shifted_back n k h = ap (λ (z : ℕ). z + n % 2 ^ k) (mod-eq_of_lt (lt_of_le_of_lt (div-mul-le_self n (2 ^ k)) (more n h))) ∙ div-add-mod' n (2 ^ k)
  where
    more : (z : ℕ) → z < 9223372036854775808 → z < 18446744073709551616
    more z h = omega arith

-- ---- which of the two whole numbers beside n / 2 ^ k, by its remainder and what that lacks to the divisor, as the code has them
module _ (n k d r : ℕ) (D : d ≡ 2 ^ k) (R : r ≡ n % 2 ^ k) where
  pub remains_less : r < d
  remains_less = subst (λ (z : ℕ). r < z) (sym D) (subst (λ (z : ℕ). z < 2 ^ k) (sym R) (mod-lt n (pow_pos k)))

  twice : (P : ℕ → ℕ → Type 0) → P (r * 2) d → P (n % 2 ^ k * 2) (2 ^ k)
  twice P h = subst (λ (z : ℕ). P (n % 2 ^ k * 2) z) D (subst (λ (z : ℕ). P (z * 2) d) R h)

  pub closest_below : r < d - r → n / 2 ^ k ≡ closest n (2 ^ k)
  closest_below h = sym (nearest_lt (n / 2 ^ k) (n % 2 ^ k * 2) (2 ^ k) (twice (λ a b. a < b) (omega (arith, remains_less))))

  pub closest_above : d - r < r → n / 2 ^ k + 1 ≡ closest n (2 ^ k)
  closest_above h = add-one (n / 2 ^ k) ∙ sym (nearest_gt (n / 2 ^ k) (n % 2 ^ k * 2) (2 ^ k) (twice (λ a b. b < a) (omega (arith, remains_less))))

  pub closest_between : d - r ≤ r → r ≤ d - r → n / 2 ^ k + n / 2 ^ k % 2 ≡ closest n (2 ^ k)
  closest_between h j = sym (nearest_eq (n / 2 ^ k) (n % 2 ^ k * 2) (2 ^ k) (twice (λ a b. a ≡ b) (omega (arith, remains_less))))
