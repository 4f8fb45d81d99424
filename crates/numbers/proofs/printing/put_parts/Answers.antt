-- Each part is stored where the one before it ends, so together they are their texts joined.
use native.Mathlib.Omega.{arith}
use lib.ListN.{length-set}
use Rattle.ascii.proofs.OutputLaws.{stored_byte, stored_append}
use Rattle.numbers.proofs.PrintingLaws.{digits_length}
use Rattle.numbers.proofs.printing.put_parts.Goals as goal

-- where the point stands
pub bounds-out-point : goal.bounds-out-point
bounds-out-point c = omega (arith, digits_length c.args.count c.args.whole, c.put_digits-point.ensures.place, c.put_sign-digits.ensures.place)

pub overflow_add-point : goal.overflow_add-point
overflow_add-point c = omega (arith, digits_length c.args.count c.args.whole, c.put_digits-point.ensures.place, c.put_sign-digits.ensures.place)

pub put_digits-requires : goal.put_digits-requires
put_digits-requires c =
    simp length-set (omega (arith, digits_length c.args.count c.args.whole, c.put_digits-point.ensures.place, c.put_sign-digits.ensures.place))

pub returns : goal.returns
returns c =
    stored_append c.put_sign-digits.ensures
    (stored_append c.put_digits-point.ensures
    (stored_append (stored_byte c.put_digits-point.new.out c.put_digits-point.result 46) c.put_digits.ensures))
