-- The greatest mark of the bytes passed is kept, and after the last byte it tells of all.
use mathlib.Core.Path.{sym, subst}
use Prim.Native.Nat.{ℕ, ◌+◌, ◌<◌}
use native.Mathlib.Omega.{arith}
use lib.ListN.{length}
use Rattle.lines.specs.Domain.{stands_anywhere}
use Rattle.lines.proofs.MarkLaws.{MarkedTo, greater_mark, smaller_mark, all_marked}
use Rattle.lines.proofs.domain.none_odd.Goals as goal
use Rattle.lines.proofs.domain.none_odd.Goals.{then-most-odd, else-most-odd}

pub loop-b-preserved : goal.loop-b-preserved
loop-b-preserved c =
    let text = c.args.text.now in
    let l = c.loop-b in
    let begins : l.b-index < length text = omega arith in
    let mark = c.oddness-odd.ensures in
    let known : ℕ → Type 0 = MarkedTo stands_anywhere text (l.b-index + 1) in
    elim c.if-most-odd.branch [
      | then-most-odd w ↦ subst known (sym w.most-is) (greater_mark stands_anywhere text l.b-index begins mark l.invariant w.if-most-odd.true)
      | else-most-odd w ↦ subst known (sym w.most-is) (smaller_mark stands_anywhere text l.b-index begins mark l.invariant w.if-most-odd.false)
    ]

pub returns : goal.returns
returns c =
    let l = c.loop-b in
    sym (all_marked stands_anywhere c.args.text.now l.b-index l.most c.loop-b-test.false l.invariant)
