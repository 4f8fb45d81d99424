-- A value is a number, so that it has bits.
use mathlib.Core.Path.{sym, ◌∙◌}
use Rattle.numbers.proofs.ValueIsNearest.{value_is_a_number}
use Rattle.replay.proofs.numbers_answered.read.Goals as goal

pub float_to_bits-x : goal.float_to_bits-x
float_to_bits-x g c = value_is_a_number c.args.text.now _ (sym c.read_number-n.ensures ∙ c.in-Ok.is)
