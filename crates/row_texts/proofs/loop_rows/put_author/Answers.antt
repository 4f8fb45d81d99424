-- Each field is put where the blank before it ends, a blank where the field ends, and byte 10 after the last.
use Prim.Native.Nat.{◌^◌, ◌<◌}
use native.Mathlib.Omega.{arith}
use lib.ListN.{length}
use Rattle.tokens.specs.Line.{spaced}
use Rattle.row_texts.proofs.EmittedLaws.{then}
use Rattle.row_texts.proofs.loop_rows.put_author.Goals as goal

pub returns : goal.returns
unfolding spaced
returns c =
    let short : length c.args.out.now < 2 ^ 64 = omega arith in
    then
    (then c.put_word-at.ensures (then c.put_byte-at.ensures
    (then c.put_word-at-2.ensures (then c.put_byte-at-2.ensures
    (then c.put_sequence-at.ensures (then c.put_byte-at-3.ensures
    (then c.put_name-at.ensures (then c.put_byte-at-4.ensures
    (then c.put_name-at-2.ensures (then c.put_byte-at-5.ensures
    (λ _. c.put_name-at-3.ensures)))))))))) short)
    (λ _. c.put_byte.ensures) short
