-- A line too long is refused, and else what the states say decides.
use mathlib.Core.Path.{sym, ap, ◌∙◌}
use lib.Seq.{take_all}
use Rattle.tokens.specs.Longest.{longest}
use Rattle.line_states.specs.States.{moved_by}
use Rattle.line_states.specs.declared.reading.Moved.{Moved}
use Rattle.mmcif.specs.Acts.{moved_act}
use Rattle.mmcif.proofs.PlanLaws.{plan_long, plan_within}
use Rattle.mmcif.proofs.plans.plan_of.Goals as goal

pub returns-then-line-gt-LONGEST : goal.returns-then-line-gt-LONGEST
returns-then-line-gt-LONGEST c = let a = c.args in sym (plan_long a.settings a.heads a.line.now c.if-line-gt-LONGEST.true)

pub returns : goal.returns
returns c =
    let a = c.args in
    let short = c.if-line-gt-LONGEST.false in
    let moved = c.read_line-moved in
    (λ i. record { heads = moved.result.heads; act = c.act_by-act.ensures i })
    ∙ ap (λ (m : Moved). record { heads = m.heads; act = moved_act a.settings a.line.now m }) (moved.ensures ∙ ap (moved_by a.heads) (take_all longest a.line.now short))
    ∙ sym (plan_within a.settings a.heads a.line.now short)
