-- The row is as long as its fields together, and the bytes after them.
use Rattle.row_texts.proofs.RowLengths.{atom_length}
use Rattle.row_texts.proofs.row_ends.past_atom_row.Goals as goal

pub returns : goal.returns
returns c near =
    let sum =
    atom_length c.args.row
    c.group_length-group.ensures
    c.decimal_length-id.ensures
    c.symbol_length-symbol.ensures
    c.name_length.ensures
    c.name_length-2.ensures
    c.name_length-3.ensures
    c.decimal_length-entity.ensures
    c.number_length-number.ensures
    (c.position_length-position.ensures.0 near)
    c.sequence_length-sequence.ensures in
    rw sum c.place_on.ensures
