-- The row is as long as its fields together, and the bytes after them.
use native.Mathlib.Omega.{arith}
use Rattle.row_texts.proofs.RowLengths.{polymer_length}
use Rattle.row_texts.proofs.row_ends.past_polymer_row.Goals as goal

pub returns : goal.returns
returns c h =
    let sum = polymer_length c.args.row in
    omega (arith, sum, c.place_on.ensures (omega (arith, h, sum)))
