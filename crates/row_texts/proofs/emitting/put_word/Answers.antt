-- The word was placed, or had no room; the place after it is told by that.
use Rattle.row_texts.proofs.EmittedLaws.{placed_emits}
use Rattle.row_texts.proofs.emitting.put_word.Goals as goal

pub returns : goal.returns
returns c =
    let a = c.args in
    placed_emits a.out.now a.at a.word.now c.put_text-placed.ensures c.place_after.ensures
