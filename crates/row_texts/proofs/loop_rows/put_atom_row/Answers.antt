-- The four parts are put one after the other, and together are the row.
use Prim.Native.Nat.{◌^◌, ◌<◌}
use native.Mathlib.Omega.{arith}
use borrow.Author.Rules.{rules}
use lib.ListN.{length}
use Rattle.row_texts.proofs.EmittedLaws.{then}
use Rattle.row_texts.proofs.RowsInParts.{atom_in_parts}
use Rattle.row_texts.proofs.loop_rows.put_atom_row.Goals as goal

pub returns : goal.returns
returns c =
    let short : length c.args.out.now < 2 ^ 64 = omega arith in (
      λ near.
          rw (atom_in_parts c.args.row)
          (then c.put_labels-at.ensures (then c.put_numbering-at.ensures
          (then (c.put_position-at.ensures near) (λ _. c.put_author.ensures))) short),
      search rules,
    )
