-- A number that stands below 0 has a sign before its digits.
use Prim.Native.Nat.{◌-◌, ◌^◌}
use native.Mathlib.Omega.{arith}
use Rattle.row_texts.proofs.FieldsAreShort.{decimal_fits, signed_counted, unsigned_counted}
use Rattle.row_texts.proofs.lengths.sequence_length.Goals as goal

pub overflow_add-result : goal.overflow_add-result
overflow_add-result c = omega (arith, decimal_fits (2 ^ 31 - c.args.sequence))

pub returns-then-sequence-lt-ZERO : goal.returns-then-sequence-lt-ZERO
returns-then-sequence-lt-ZERO c = signed_counted c.args.sequence c.if-sequence-lt-ZERO.true c.whole_length.ensures

pub returns : goal.returns
returns c = unsigned_counted c.args.sequence c.if-sequence-lt-ZERO.false c.whole_length-2.ensures
