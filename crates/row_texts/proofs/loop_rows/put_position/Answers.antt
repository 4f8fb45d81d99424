-- A near position's coordinates are printable; each is put where the blank before it ends, and a blank where it ends.
use mathlib.Core.Bool.{◌&&◌}
use Prim.Native.Nat.{◌^◌, ◌<◌}
use native.Mathlib.Omega.{arith}
use lib.ListN.{length}
use Rattle.numbers.specs.Rounding.{printable}
use Rattle.ascii.proofs.TestLaws.{left_of, right_of}
use Rattle.row_texts.specs.Rows.{blanked}
use Rattle.row_texts.proofs.EmittedLaws.{then}
use Rattle.row_texts.proofs.loop_rows.put_position.Goals as goal

pub returns : goal.returns
unfolding blanked
returns c near =
    let short : length c.args.out.now < 2 ^ 64 = omega arith in
    let position = c.args.row.position in
    let near-x = printable position.x in
    let near-y = printable position.y in
    let near-z = printable position.z in
    let two = left_of (near-x && near-y) near-z near in
    then (c.put_coordinate-at.ensures (left_of near-x near-y two)) (then c.put_byte-at.ensures
    (then (c.put_coordinate-at-2.ensures (right_of near-x near-y two)) (then c.put_byte-at-2.ensures
    (then (c.put_coordinate-at-3.ensures (right_of (near-x && near-y) near-z near)) (λ _. c.put_byte.ensures))))) short
