-- A text of so many digits is as long as they are many.
use mathlib.Core.Path.{sym, ◌∙◌}
use Rattle.numbers.proofs.PrintingLaws.{digits_length}
use Rattle.numbers.proofs.lengths.whole_length.Goals as goal

pub returns : goal.returns
returns c = c.digit_count.ensures ∙ sym (digits_length _ c.args.n)
