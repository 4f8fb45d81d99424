-- A finite double is its significand times 2 to its exponent, over 2 ^ 1074, as its bit pattern's fields say: reading the bits back gives the double.
use mathlib.Core.Path.{◌≡◌, refl, sym, ap, ◌∙◌, subst}
use mathlib.Core.Bool.{Bool, true, false, cond}
use Prim.Native.Nat.{ℕ, zero, suc, ◌+◌, ◌-◌, ◌*◌, ◌%◌, ◌^◌}
use native.Mathlib.Omega.{arith}
use lib.Dec.{T, leb, eqb}
use lib.Ieee.{Float, nan, inf, binary64, odd, fits, of_fields, of_bits, to_bits}
use lib.Ieee.Exact.{HasValue, odd_sign}
use lib.Ieee.Scale.{finite}
use lib.Ieee.Bits.{of_bits-to_bits}
use Rattle.numbers.specs.Bits.{exponent_field, significand_at, exponent_at, significand_of, exponent_of}

fields_value : (s : Bool) (field fraction : ℕ) → T (finite (of_fields binary64 s field fraction))
    → HasValue (of_fields binary64 s field fraction) s (significand_at field fraction * 2 ^ exponent_at field) (2 ^ 1074)
unfolding of_fields
fields_value s zero fraction h = odd_sign 53 s fraction 0 1074
fields_value s (suc field) fraction h = go (eqb (suc field) 2047) h
  where
    never : (b : Bool) → T (finite (cond b (inf s) nan)) → ⊥
    never true u = u
    never false u = u

    go : (b : Bool) → T (finite (cond b (cond (eqb fraction 0) (inf s) nan) (odd 53 s (2 ^ 52 + fraction) field 1074)))
        → HasValue (cond b (cond (eqb fraction 0) (inf s) nan) (odd 53 s (2 ^ 52 + fraction) field 1074)) s ((2 ^ 52 + fraction) * 2 ^ field) (2 ^ 1074)
    go true u = absurd (never (eqb fraction 0) u)
    go false u = odd_sign 53 s (2 ^ 52 + fraction) field 1074

of_bits_is : (bits : ℕ) → of_bits binary64 bits ≡ of_fields binary64 (leb (2 ^ 63) bits) (exponent_field bits) (bits % 2 ^ 52)
unfolding of_bits
of_bits_is bits = refl

pub bits_value : (x : Float) → T (fits binary64 x) → T (finite x)
    → HasValue x (leb (2 ^ 63) (to_bits binary64 x)) (significand_of (to_bits binary64 x) * 2 ^ exponent_of (to_bits binary64 x)) (2 ^ 1074)
bits_value x h k =
    let bits = to_bits binary64 x in
    let e : of_fields binary64 (leb (2 ^ 63) bits) (exponent_field bits) (bits % 2 ^ 52) ≡ x = sym (of_bits_is bits) ∙ of_bits-to_bits binary64 x h in
    subst (λ (y : Float). HasValue y (leb (2 ^ 63) bits) (significand_of bits * 2 ^ exponent_of bits) (2 ^ 1074)) e
    (fields_value (leb (2 ^ 63) bits) (exponent_field bits) (bits % 2 ^ 52) (subst (λ (y : Float). T (finite y)) (sym e) k))

-- ---- by the exponent's field, as the code tests it
pub significand_zero : (field fraction : ℕ) → field ≡ 0 → significand_at field fraction ≡ fraction
significand_zero field fraction e = ap (λ (z : ℕ). significand_at z fraction) e

pub significand_more : (field fraction : ℕ) → (field ≡ 0 → ⊥) → significand_at field fraction ≡ 2 ^ 52 + fraction
significand_more zero fraction n = absurd (n refl)
significand_more (suc field) fraction n = refl

pub exponent_is : (field : ℕ) → exponent_at field ≡ field - 1
exponent_is zero = refl
exponent_is (suc field) = go field
  where
    go : (field : ℕ) → field ≡ suc field - 1
    go field = omega arith
