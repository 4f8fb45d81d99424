-- The range of the byte, or the byte itself, decides, as in `stands_anywhere`.
use native.Mathlib.Omega.{arith}
use borrow.Author.Tests.{ne_eqb, le-leb, lt-leb}
use Rattle.lines.proofs.domain.oddness.Goals as goal

pub returns-then-b-eq10 : goal.returns-then-b-eq10
returns-then-b-eq10 c = rw c.if-b-eq10.true

pub returns-then-b-eq9 : goal.returns-then-b-eq9
returns-then-b-eq9 c = rw c.if-b-eq9.true

pub returns-then-b-lt32 : goal.returns-then-b-lt32
returns-then-b-lt32 c =
    let b = c.args.b in
    simp (ne_eqb b 9 c.if-b-eq9.false, ne_eqb b 10 c.if-b-eq10.false, lt-leb 32 b c.if-b-lt32.true)

pub returns-then-b-gt126 : goal.returns-then-b-gt126
returns-then-b-gt126 c =
    let b = c.args.b in
    simp (ne_eqb b 9 (λ e. omega arith), ne_eqb b 10 (λ e. omega arith), lt-leb b 126 (omega arith), le-leb 32 b (omega arith))

pub returns : goal.returns
returns c =
    let b = c.args.b in
    simp (ne_eqb b 9 (λ e. omega arith), le-leb 32 b c.if-b-lt32.false, le-leb b 126 c.if-b-gt126.false)
