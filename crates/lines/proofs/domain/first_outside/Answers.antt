-- A text with no odd byte has none outside; any other is walked.
use mathlib.Core.Path.{sym, ◌∙◌}
use Rattle.lines.proofs.NoneOutside.{none_odd}
use Rattle.lines.proofs.domain.first_outside.Goals as goal

pub returns-then-none_odd : goal.returns-then-none_odd
returns-then-none_odd c =
    let text = c.args.text.now in
    sym (none_odd text (sym c.none_odd.ensures ∙ c.if-none_odd.true))

pub returns : goal.returns
returns c = c.walk_to_outside.ensures
