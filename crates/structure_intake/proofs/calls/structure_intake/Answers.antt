-- A result of another length is refused at once; else the answer of the service is told in it.
use mathlib.Core.Path.{sym, ◌∙◌}
use Rattle.results.proofs.ResultLaws.{told_whole}
use Rattle.structure_intake.proofs.CallLaws.{called_own, not_called_own}
use Rattle.structure_intake.proofs.calls.structure_intake.Goals as goal

pub returns-then-not-is_whole : goal.returns-then-not-is_whole
returns-then-not-is_whole c =
    not_called_own c.args.text.now c.args.out.now c.args.res.now (sym c.is_whole.ensures ∙ c.if-not-is_whole.true)

pub returns : goal.returns
returns c =
    let settings = c.assuming in
    let s = c.serve_own-answer in
    let whole = sym c.is_whole.ensures ∙ c.if-not-is_whole.false in
    called_own c.args.text.now c.args.out.now c.args.res.now settings.result settings.ensures _ _ _ _ whole
    s.ensures
    (c.put_numbers.ensures ∙ told_whole c.args.res.now s.result whole)
    c.status_of.ensures
