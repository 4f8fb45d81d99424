-- The greatest mark of the bytes passed is kept, and after the last byte, the block's 16th, it tells of all.
use mathlib.Core.Path.{sym, subst}
use Prim.Native.Nat.{ℕ, ◌+◌, ◌<◌}
use native.Mathlib.Omega.{arith}
use lib.ListN.{length}
use Rattle.lines.specs.Lines.{is_no_feed}
use Rattle.lines.proofs.MarkLaws.{MarkedTo, greater_mark, smaller_mark, all_marked}
use Rattle.lines.proofs.lines.has_no_feed.Goals as goal
use Rattle.lines.proofs.lines.has_no_feed.Goals.{then-most-mark, else-most-mark}

pub loop-b-preserved : goal.loop-b-preserved
loop-b-preserved c =
    let block = c.args.block.now in
    let l = c.loop-b in
    let begins : l.b-index < length block = omega arith in
    let mark = c.feed_mark-mark.ensures in
    let known : ℕ → Type 0 = MarkedTo is_no_feed block (l.b-index + 1) in
    elim c.if-most-mark.branch [
      | then-most-mark w ↦ subst known (sym w.most-is) (greater_mark is_no_feed block l.b-index begins mark l.invariant w.if-most-mark.true)
      | else-most-mark w ↦ subst known (sym w.most-is) (smaller_mark is_no_feed block l.b-index begins mark l.invariant w.if-most-mark.false)
    ]

pub returns : goal.returns
returns c =
    let l = c.loop-b in
    sym (all_marked is_no_feed c.args.block.now l.b-index l.most c.loop-b-test.false l.invariant)
