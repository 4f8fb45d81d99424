-- The significand times a thousand still fits; where the divisor is past 64 bits, less than half a unit is left.
use mathlib.Core.Path.{refl, sym, ◌∙◌, subst}
use Prim.Native.Nat.{◌-◌, ◌*◌, ◌^◌, ◌≤◌, ◌<◌}
use native.Mathlib.Omega.{arith}
use lib.Dec.{T}
use lib.Pow.{pow_mono}
use Rattle.numbers.proofs.RoundingLaws.{printable_number, exponent_fits, units_from, closest_zero}
use Rattle.numbers.proofs.rounding.units.Goals as goal

pub float_to_bits-bits : goal.float_to_bits-bits
float_to_bits-bits c = printable_number c.args.x c.requires

pub returns-then-e-lt1011 : goal.returns-then-e-lt1011
returns-then-e-lt1011 c =
    let k = c.exponent-e.result in
    let n = c.significand-n.result * 1000 in
    let small : n < 9223372036854775808 = omega (arith, c.significand-n.ensures.1) in
    let big : 2 ^ 64 ≤ 2 ^ (1074 - k) = pow_mono {i = 64} {j = 1074 - k} (omega arith) in
    sym (closest_zero n (2 ^ (1074 - k)) (omega arith))
    ∙ units_from 3 c.args.x _ 1000 _ (subst T (sym c.well_formed.0.1) tt) c.requires c.significand-n.ensures.0 refl c.exponent-e.ensures

pub overflow_sub-e : goal.overflow_sub-e
overflow_sub-e c = omega (arith, exponent_fits c.args.x (subst T (sym c.well_formed.0.1) tt) c.requires, c.exponent-e.ensures)

pub nearest_shifted-requires : goal.nearest_shifted-requires
nearest_shifted-requires c = (omega arith, omega (arith, c.significand-n.ensures.1))

pub returns : goal.returns
returns c =
    c.nearest_shifted.ensures
    ∙ units_from 3 c.args.x _ 1000 _ (subst T (sym c.well_formed.0.1) tt) c.requires c.significand-n.ensures.0 refl c.exponent-e.ensures
