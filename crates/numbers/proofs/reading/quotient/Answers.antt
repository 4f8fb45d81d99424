-- Both numbers are below 2 ^ 53, so the format holds them, and one division of what it holds is `round` of the fraction.
use mathlib.Core.Path.{sym, ap, ◌∙◌}
use mathlib.Core.Bool.{Bool}
use Prim.Native.Nat.{◌^◌}
use native.Mathlib.Omega.{arith}
use lib.Dec.{le→leb}
use lib.Ieee.{in_float, binary64, round, neg}
use Rattle.numbers.proofs.DivisionLaw.{quotient_is, neg_round}
use Rattle.numbers.proofs.reading.quotient.Goals as goal

pub int_to_float-q : goal.int_to_float-q
unfolding in_float
int_to_float-q c = le→leb c.args.n (2 ^ 53) (omega arith)

pub int_to_float-q-2 : goal.int_to_float-q-2
unfolding in_float
int_to_float-q-2 c = le→leb c.args.p (2 ^ 53) (omega arith)

pub returns-then-negative : goal.returns-then-negative
returns-then-negative c =
    let n = c.args.n in
    let p = c.args.p in
    ap neg (quotient_is n p (omega arith) (omega arith) (omega arith)) ∙ neg_round binary64 n p ∙ ap (λ (s : Bool). round binary64 s n p) (sym c.if-negative.true)

pub returns-else-negative : goal.returns-else-negative
returns-else-negative c =
    let n = c.args.n in
    let p = c.args.p in
    quotient_is n p (omega arith) (omega arith) (omega arith) ∙ ap (λ (s : Bool). round binary64 s n p) (sym c.if-negative.false)
