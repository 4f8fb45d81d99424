-- While no byte passed is a 10, the next byte decides whether it is the first.
use Rattle.lines.proofs.LineLaws.{feed_here, feed_further, feed_nowhere}
use Rattle.lines.proofs.lines.feed_place.Goals as goal

pub returns-then-text-i-eq10 : goal.returns-then-text-i-eq10
returns-then-text-i-eq10 c =
    let l = c.loop-i in
    (feed_here c.args.text.now l.i l.invariant c.loop-i-test.true c.if-text-i-eq10.true, c.loop-i-test.true)

pub loop-i-preserved : goal.loop-i-preserved
loop-i-preserved c =
    let l = c.loop-i in
    feed_further c.args.text.now l.i l.invariant c.loop-i-test.true c.if-text-i-eq10.false

pub returns : goal.returns
returns c =
    let l = c.loop-i in
    feed_nowhere c.args.text.now l.i l.invariant c.loop-i-test.false
