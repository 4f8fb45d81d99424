-- What is left between the blanks is the trimmed line; where that begins #, nothing is lent.
use mathlib.Core.Path.{sym, ap, ◌∙◌}
use borrow.Author.Tests.{eq-eqb, ne_eqb}
use Rattle.ascii.specs.Bytes.{byte, first}
use Rattle.tokens.specs.Trim.{trim, content_of}
use Rattle.tokens.proofs.TrimLaws.{trimmed}
use Rattle.tokens.proofs.trim.content_of.Goals as goal

pub returns-then-byte_at-eq35 : goal.returns-then-byte_at-eq35
unfolding content_of
returns-then-byte_at-eq35 c =
    let line = c.args.line.now in
    let start = c.trim_start-start in
    let text = trimmed line start.result c.trim_end-end.result start.ensures.1 c.trim_end-end.ensures.1 in
    rw (eq-eqb (first (trim line)) (byte "#") (sym (ap first text) ∙ sym c.byte_at.ensures ∙ c.if-byte_at-eq35.true))

pub returns : goal.returns
unfolding content_of
returns c =
    let line = c.args.line.now in
    let start = c.trim_start-start in
    let text = trimmed line start.result c.trim_end-end.result start.ensures.1 c.trim_end-end.ensures.1 in
    rw (ne_eqb (first (trim line)) (byte "#") (λ e. c.if-byte_at-eq35.false (c.byte_at.ensures ∙ ap first text ∙ e))) text
