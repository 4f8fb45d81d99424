-- A plain name is written as it is; any other goes through its text.
use Rattle.row_texts.proofs.fields.put_name.Goals as goal

pub returns-in-Some : goal.returns-in-Some
returns-in-Some c = rw c.in-Some.ensures.0 c.put_packed.ensures
