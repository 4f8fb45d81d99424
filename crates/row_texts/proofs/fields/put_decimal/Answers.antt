-- The digits were placed, or had no room; the place after them is told by that.
use Rattle.numbers.specs.Printing.{last_digits, digit_count}
use Rattle.row_texts.proofs.EmittedLaws.{placed_emits}
use Rattle.row_texts.proofs.fields.put_decimal.Goals as goal

pub returns : goal.returns
returns c =
    let a = c.args in
    placed_emits a.out.now a.at (last_digits (digit_count a.n) a.n) c.write_whole-placed.ensures c.place_after.ensures
