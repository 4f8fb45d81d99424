-- Each field is put where the blank before it ends, and a blank where the field ends.
use Prim.Native.Nat.{◌^◌, ◌<◌}
use native.Mathlib.Omega.{arith}
use lib.ListN.{length}
use Rattle.row_texts.specs.Rows.{blanked}
use Rattle.row_texts.proofs.EmittedLaws.{then}
use Rattle.row_texts.proofs.loop_rows.put_labels.Goals as goal

pub returns : goal.returns
unfolding blanked
returns c =
    let short : length c.args.out.now < 2 ^ 64 = omega arith in
    then c.put_group-at.ensures (then c.put_byte-at.ensures
    (then c.put_decimal-at.ensures (then c.put_byte-at-2.ensures
    (then c.put_symbol-at.ensures (then c.put_byte-at-3.ensures
    (then c.put_name-at.ensures (then c.put_byte-at-4.ensures
    (then c.put_byte-at-5.ensures (then c.put_byte-at-6.ensures
    (then c.put_name-at-2.ensures (then c.put_byte-at-7.ensures
    (then c.put_name-at-3.ensures (λ _. c.put_byte.ensures))))))))))))) short
