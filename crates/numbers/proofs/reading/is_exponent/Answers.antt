-- With the letter there is a byte to leave out, and what follows the sign decides; without it there is no exponent.
use mathlib.Core.Path.{ap, ◌∙◌}
use Rattle.std.proofs.Common.{rules}
use Rattle.ascii.specs.Digits.{all_digits}
use Rattle.numbers.proofs.GrammarLaws.{exponent_read, no_exponent, nothing}
use Rattle.numbers.proofs.reading.is_exponent.Goals as goal

pub returns-in-101 : goal.returns-in-101
returns-in-101 c = c.all_digits.ensures ∙ ap all_digits c.after_sign.ensures ∙ search (rules, exponent_read)

pub returns-in_default : goal.returns-in_default
returns-in_default c = nothing _ c.in_default.len_below

pub returns-in_default-2 : goal.returns-in_default-2
returns-in_default-2 c = search (rules, no_exponent)
