-- A near position's coordinates are printable, and each has the length of its text.
use mathlib.Core.Bool.{◌&&◌}
use native.Mathlib.Omega.{arith}
use Rattle.numbers.specs.Rounding.{printable}
use Rattle.ascii.proofs.TestLaws.{left_of, right_of}
use Rattle.row_texts.proofs.lengths.position_length.Goals as goal

pub returns : goal.returns
returns c =
    let position = c.args.position in
    let near-x = printable position.x in
    let near-y = printable position.y in
    let near-z = printable position.z in (
      λ near.
          let two = left_of (near-x && near-y) near-z near in
          omega (
            arith,
            c.coordinate_length.ensures.0 (left_of near-x near-y two),
            c.coordinate_length-2.ensures.0 (right_of near-x near-y two),
            c.coordinate_length-3.ensures.0 (right_of (near-x && near-y) near-z near),
          ),
      omega arith,
    )
