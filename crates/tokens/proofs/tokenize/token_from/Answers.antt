-- Before each byte the k-th token is still ahead; a byte's act keeps that or finds it, and the text's end ends the last token.
use mathlib.Core.Path.{sym, ◌∙◌}
use native.Mathlib.Omega.{arith}
use Rattle.tokens.proofs.WalkLaws.{adds, turns, passes, ends, finds, is_last, is_none, goes_first}
use Rattle.tokens.proofs.tokenize.token_from.Goals as goal
use Rattle.tokens.proofs.tokenize.token_from.Goals.{in-Add, in-End, in-End-3, in-Turn}

pub loop-b-init : goal.loop-b-init
loop-b-init c = (omega arith, goes_first _ _ _)

pub returns-in-End-2 : goal.returns-in-End-2
returns-in-End-2 c = finds c.loop-b.invariant.1 c.loop-b-test.true (sym c.act_of.ensures ∙ c.in-End.is) c.if-len-eq0.false c.if-left-eq0.true

pub loop-b-preserved : goal.loop-b-preserved
loop-b-preserved c =
    let l = c.loop-b in
    let g = l.invariant.1 in
    let h = c.loop-b-test.true in
    let met = sym c.act_of.ensures in
    elim c.match-act_of.branch [
      | in-Add w ↦ rw (w.cell-is, w.quote-is, w.left-is, w.len-is) (omega (arith, l.invariant.0), rw w.put.ensures (adds g h (met ∙ w.in-Add.is)))
      | in-End w ↦ rw (w.cell-is, w.quote-is, w.left-is, w.len-is) (omega (arith, l.invariant.0), passes g h (met ∙ w.in-End.is) w.if-len-eq0.true)
      | in-End-3 w ↦ rw (w.cell-is, w.quote-is, w.left-is, w.len-is) (omega arith, ends g h (met ∙ w.in-End.is) w.if-len-eq0.false w.if-left-eq0.false)
      | in-Turn w ↦ rw (w.cell-is, w.quote-is, w.left-is, w.len-is) (omega (arith, l.invariant.0), turns g h (met ∙ w.in-Turn.is))
    ]

pub returns-then-left-eq0-2 : goal.returns-then-left-eq0-2
returns-then-left-eq0-2 c = is_last c.loop-b.invariant.1 c.loop-b-test.false c.if-left-eq0-2.true

pub returns-else-left-eq0-2 : goal.returns-else-left-eq0-2
returns-else-left-eq0-2 c = is_none c.loop-b.invariant.1 c.loop-b-test.false c.if-left-eq0-2.false
