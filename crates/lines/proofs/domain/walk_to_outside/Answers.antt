-- While every byte passed is allowed, the first one outside is the first one outside of what is left, whose line is counted.
use mathlib.Core.Path.{sym, ◌∙◌}
use Prim.Native.Nat.{◌+◌}
use native.Mathlib.Omega.{arith}
use lib.ListN.{get_or}
use Rattle.lines.proofs.DomainLaws.{outside_here, outside_further, outside_none, behind_fits}
use Rattle.lines.proofs.domain.walk_to_outside.Goals as goal

pub returns-in_default : goal.returns-in_default
returns-in_default c =
    let l = c.loop-i in
    sym (l.invariant.1 ∙ outside_here c.args.text.now l.i l.line c.loop-i-test.true (sym c.in_default.ensures))

pub loop-i-preserved : goal.loop-i-preserved
loop-i-preserved c =
    let text = c.args.text.now in
    let l = c.loop-i in
    let next = sym c.in-Some.ensures in
    (omega (arith, behind_fits l.line (get_or text l.i 0) (get_or text (l.i + 1) 0) next), l.invariant.1 ∙ outside_further text l.i l.line c.loop-i-test.true next)

pub returns : goal.returns
returns c =
    let l = c.loop-i in
    sym (l.invariant.1 ∙ outside_none c.args.text.now l.i l.line c.loop-i-test.false)
