-- The bytes at the front of the cell are the name, and are written as `quote_string` writes them.
use native.Mathlib.Omega.{arith}
use Rattle.tokens.specs.Quote.{quote_of}
use Rattle.names.specs.Packing.{unpacked}
use Rattle.row_texts.proofs.EmittedLaws.{placed_emits}
use Rattle.row_texts.proofs.FieldLaws.{name_fits, name_in_front}
use Rattle.row_texts.proofs.fields.put_quoted.Goals as goal

pub slice_bounds-quote_string-end : goal.slice_bounds-quote_string-end
slice_bounds-quote_string-end c = omega (arith, name_fits _ c.unpack-n.ensures)

pub returns : goal.returns
returns c =
    let a = c.args in
    placed_emits a.out.now a.at (quote_of (unpacked a.name)) (rw (name_in_front _ c.unpack-n.ensures) at c.quote_string-placed.ensures) c.place_after.ensures
