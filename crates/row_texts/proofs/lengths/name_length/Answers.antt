-- A plain name is written as it is; the text of any other, put into a buffer without a byte, ends as far on as it is long.
use mathlib.Core.Path.{sym, ap, ◌∙◌}
use lib.ListN.{length}
use Rattle.row_texts.proofs.FieldsAreShort.{name_short, counted, from_the_start}
use Rattle.row_texts.proofs.lengths.name_length.Goals as goal

pub returns-in-Some : goal.returns-in-Some
returns-in-Some c =
    let plain = c.in-Some.ensures in
    counted (plain.1 ∙ ap length (sym plain.0)) (name_short c.args.name)

pub returns : goal.returns
returns c = from_the_start c.put_quoted.ensures.place (name_short c.args.name)
