-- The two comparisons are with a million either way.
use mathlib.Core.Path.{sym, ◌∙◌}
use lib.Ieee.{of_bits, neg}
use Rattle.numbers.proofs.PrintableLaws.{printable_below, printable_above}
use Rattle.numbers.proofs.rounding.is_printable.Goals as goal

pub returns-then-x : goal.returns-then-x
unfolding of_bits neg
returns-then-x c = printable_below c.args.x c.if-x.true

pub returns-else-x : goal.returns-else-x
unfolding of_bits neg
returns-else-x c = c.if-x.false ∙ sym (printable_above c.args.x c.if-x.false)
