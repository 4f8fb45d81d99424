-- What is not printable has no text; of what is, the length is that of the text that is put.
use mathlib.Core.Path.{refl, sym, ap, ◌∙◌, subst}
use mathlib.Core.Bool.{true≢false}
use lib.Dec.{T}
use lib.ListN.{length}
use Rattle.numbers.proofs.PrintingLaws.{digit_count_fits, text_length, text_of_lem}
use Rattle.numbers.proofs.lengths.thousandths_length.Goals as goal

pub returns-then-not-is_printable : goal.returns-then-not-is_printable
returns-then-not-is_printable c = (λ yes. absurd (true≢false (sym yes ∙ (sym c.is_printable.ensures ∙ c.if-not-is_printable.true))), λ no. refl)

pub units-requires : goal.units-requires
units-requires c = subst T (sym (sym c.is_printable.ensures ∙ c.if-not-is_printable.false)) tt

pub is_negative-requires : goal.is_negative-requires
is_negative-requires c = subst T (sym (sym c.is_printable.ensures ∙ c.if-not-is_printable.false)) tt

pub fixed_length-requires : goal.fixed_length-requires
fixed_length-requires c = rw c.digit_count-count.ensures (digit_count_fits _)

pub returns : goal.returns
returns c =
    let x = c.args.x in
    let n = c.units in
    let negative = c.is_negative in
    let long = c.fixed_length.ensures ∙ text_length 3 negative.result n.result 1000 _ refl c.digit_count-count.ensures in
    (λ yes. long ∙ ap length (text_of_lem 3 x negative.ensures n.ensures), λ no. absurd (true≢false (sym (sym c.is_printable.ensures ∙ c.if-not-is_printable.false) ∙ no)))
