-- The highest bit is the sign, and what is printable has one.
use mathlib.Core.Path.{sym, subst}
use lib.Dec.{T}
use Rattle.numbers.proofs.RoundingLaws.{printable_number, bits_sign}
use Rattle.numbers.proofs.rounding.is_negative.Goals as goal

pub float_to_bits-result : goal.float_to_bits-result
float_to_bits-result c = printable_number c.args.x c.requires

pub returns : goal.returns
returns c = bits_sign c.args.x (subst T (sym c.well_formed.0.1) tt) c.requires
