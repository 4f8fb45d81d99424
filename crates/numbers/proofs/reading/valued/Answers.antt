-- The test is the definition's, and the quotient is of the two numbers in it.
use mathlib.Core.Path.{sym, ap, ◌∙◌}
use Prim.Native.Nat.{ℕ}
use native.Mathlib.Omega.{arith}
use lib.Ieee.{binary64, round}
use Rattle.std.specs.Prelude.{Ok}
use Rattle.numbers.proofs.PowerLaws.{ten_fits, ten_positive}
use Rattle.numbers.proofs.reading.valued.Goals as goal

pub quotient-requires : goal.quotient-requires
quotient-requires c =
    let places = c.args.places in
    let power = c.power_of_ten-p.ensures in
    (c.requires.0, (omega (arith, power, ten_positive places), omega (arith, power, ten_fits places c.requires.1)))

pub returns-then-is_near : goal.returns-then-is_near
returns-then-is_near c =
    let a = c.args in
    ap Ok (c.quotient.ensures ∙ ap (λ (p : ℕ). round binary64 a.negative a.n p) c.power_of_ten-p.ensures)
    ∙ sym (simp (sym c.is_near.ensures ∙ c.if-is_near.true))

pub returns-else-is_near : goal.returns-else-is_near
returns-else-is_near c = sym (simp (sym c.is_near.ensures ∙ c.if-is_near.false))
