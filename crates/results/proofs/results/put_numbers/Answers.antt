-- A whole result tells the numbers; another is not touched.
use mathlib.Core.Path.{sym, ◌∙◌}
use Rattle.results.proofs.ResultLaws.{told_whole, told_other}
use Rattle.results.proofs.results.put_numbers.Goals as goal

pub put_whole-requires : goal.put_whole-requires
put_whole-requires c = sym c.is_whole.ensures ∙ c.if-is_whole.true

pub returns-then-is_whole : goal.returns-then-is_whole
returns-then-is_whole c =
    c.put_whole.ensures
    ∙ sym (told_whole c.args.res.now c.args.answer (sym c.is_whole.ensures ∙ c.if-is_whole.true))

pub returns-else-is_whole : goal.returns-else-is_whole
returns-else-is_whole c =
    sym (told_other c.args.res.now c.args.answer (sym c.is_whole.ensures ∙ c.if-is_whole.false))
