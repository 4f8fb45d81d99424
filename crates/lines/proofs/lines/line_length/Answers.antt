-- Where a byte stands before the 10, that byte decides, as in `line_length`.
use native.Mathlib.Omega.{arith}
use borrow.Author.Tests.{eq-eqb, ne_eqb}
use Rattle.lines.proofs.LineLaws.{length_from}
use Rattle.lines.proofs.lines.line_length.Goals as goal

pub returns-then-feed-eq0 : goal.returns-then-feed-eq0
returns-then-feed-eq0 c = rw c.if-feed-eq0.true

pub returns-then-text-feed-eq13 : goal.returns-then-text-feed-eq13
returns-then-text-feed-eq13 c =
    let a = c.args in
    rw (length_from a.text.now a.feed (omega arith), eq-eqb _ _ c.if-text-feed-eq13.true)

pub returns : goal.returns
returns c =
    let a = c.args in
    rw (length_from a.text.now a.feed (omega arith), ne_eqb _ _ c.if-text-feed-eq13.false)
