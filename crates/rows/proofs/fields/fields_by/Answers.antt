-- The cell and the places are long enough, so that the tokens stand in the cell.
use Rattle.rows.proofs.CellLaws.{in_room}
use Rattle.rows.proofs.fields.fields_by.Goals as goal

pub returns : goal.returns
returns c =
    let split = c.split_mmcif_line-count in
    let a = c.args in
    c.fields_in.ensures a.line.now
    (record {
      many = split.ensures.value;
      tokens = λ k h. rw (split.ensures.value, split.ensures.cell_after, split.ensures.places_after) (in_room a.line.now a.cell.now a.places.now c.requires.0 c.requires.1 k h);
    })
