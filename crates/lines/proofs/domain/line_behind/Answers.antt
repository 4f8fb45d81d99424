-- The range of the byte, or the byte itself, decides, as in `line_behind`; for a 13 the byte after it does.
use mathlib.Core.Path.{sym, ◌∙◌}
use Prim.Native.Nat.{◌+◌}
use lib.ListN.{get_or}
use borrow.Author.Tests.{ne_eqb}
use Rattle.lines.proofs.DomainLaws.{printable, past_printable, control}
use Rattle.lines.proofs.domain.line_behind.Goals as goal

pub returns-then-b-le126 : goal.returns-then-b-le126
returns-then-b-le126 c =
    let a = c.args in
    printable a.line (get_or a.text.now a.i 0) (get_or a.text.now (a.i + 1) 0) c.if-b-ge32.true c.if-b-le126.true

pub returns-then-b-ge32 : goal.returns-then-b-ge32
returns-then-b-ge32 c =
    let a = c.args in
    past_printable a.line (get_or a.text.now a.i 0) (get_or a.text.now (a.i + 1) 0) c.if-b-le126.false

pub returns-then-byte_at-eq10 : goal.returns-then-byte_at-eq10
returns-then-byte_at-eq10 c = rw (c.in-13.is, sym c.byte_at.ensures ∙ c.if-byte_at-eq10.true)

pub returns-in-9 : goal.returns-in-9
returns-in-9 c = rw c.in-9.is

pub returns-in-10 : goal.returns-in-10
returns-in-10 c = rw c.in-10.is

pub returns-else-byte_at-eq10 : goal.returns-else-byte_at-eq10
returns-else-byte_at-eq10 c =
    let a = c.args in
    rw (c.in-13.is, ne_eqb (get_or a.text.now (a.i + 1) 0) 10 (λ e. c.if-byte_at-eq10.false (c.byte_at.ensures ∙ e)))

pub returns-in_default : goal.returns-in_default
returns-in_default c =
    let a = c.args in
    let n = c.in_default.in_default-own.rest in
    control a.line (get_or a.text.now a.i 0) (get_or a.text.now (a.i + 1) 0) c.if-b-ge32.false n.0.0.1 n.0.1 n.1
