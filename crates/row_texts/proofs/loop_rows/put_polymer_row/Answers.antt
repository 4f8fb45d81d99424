-- Each field is put where the blank before it ends, a blank where the field ends, and byte 10 after the last.
use Prim.Native.Nat.{◌^◌, ◌<◌}
use native.Mathlib.Omega.{arith}
use lib.ListN.{length}
use Rattle.tokens.specs.Line.{spaced}
use Rattle.row_texts.specs.Rows.{polymer_text}
use Rattle.row_texts.proofs.EmittedLaws.{then}
use Rattle.row_texts.proofs.loop_rows.put_polymer_row.Goals as goal

pub returns : goal.returns
unfolding spaced polymer_text
returns c =
    let short : length c.args.out.now < 2 ^ 64 = omega arith in
    then
    (then c.put_decimal-at.ensures (then c.put_byte-at.ensures
    (then c.put_decimal-at-2.ensures (then c.put_byte-at-2.ensures
    (then c.put_name-at.ensures (then c.put_byte-at-3.ensures
    (λ _. c.put_byte-at-4.ensures)))))) short)
    (λ _. c.put_byte.ensures) short
