-- A coordinate has the length of its text, and where it has none, 0.
use Rattle.row_texts.proofs.FieldsAreShort.{coordinate_counted}
use Rattle.row_texts.proofs.lengths.coordinate_length.Goals as goal

pub returns : goal.returns
returns c = coordinate_counted c.args.x c.thousandths_length.ensures
