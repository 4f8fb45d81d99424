-- One line after the other, while none waits.
use mathlib.Core.Path.{◌≡◌, refl, sym, ap, ◌∙◌, subst}
use Prim.Native.Nat.{ℕ, suc, ◌-◌, ◌^◌, ◌<◌}
use native.Mathlib.Omega.{arith}
use mathlib.Core.Bool.{true}
use mathlib.Core.List.{List}
use lib.ListN.{length, take, drop}
use Rattle.std.specs.Prelude.{Option, None}
use Rattle.lines.specs.Lines.{LineAt}
use Rattle.lines.specs.declared.lines.Line.{Line}
use Rattle.rows.specs.declared.settings.Settings.{Settings}
use Rattle.acts.specs.Standing.{passed_at}
use Rattle.acts.specs.declared.doing.Standing.{Standing}
use Rattle.mmcif.specs.declared.plans.Plan.{Plan}
use Rattle.mmcif.specs.declared.stages.Stage.{Stage}
use Rattle.mmcif.specs.declared.stages.Waiting.{Waiting}
use Rattle.mmcif.specs.Plans.{plan_of}
use Rattle.mmcif.specs.Stages.{is_waiting, onward_to, number_after, GoesOnTo}
use Rattle.mmcif.proofs.NextLineLaws.{waiting_by, stage_with, none_kept}
use Rattle.mmcif.proofs.StageLaws.{OnTheWay, sets_out, further_on, one_line, row_met, at_end_lem}
use Rattle.mmcif.proofs.stages.to_next_row.Goals as goal

-- ---- a line, and the stage after it
module _ (text : List ℕ) (settings : Settings) (here : Stage) (small : suc (length text) < 2 ^ 64) (more : here.at < length text) (line : Line) (there : LineAt text here.at line)
    (plan : Plan) (planned : plan ≡ plan_of settings here.heads (take (line.end - here.at) (drop here.at text))) (waiting : Option Waiting) (waits : waiting_by here.number plan.act ≡ waiting)
    (standing : Standing) (passed : standing ≡ passed_at here.number here.standing.held plan.act)
    (at : ℕ) (onward : at ≡ onward_to standing.halt line.next (length text)) (number : ℕ) (counted : number ≡ number_after here.number) where
  abbrev after : Stage
  after = record { at = at; number = number; heads = plan.heads; standing = standing; waiting = waiting }

  next_is : stage_with text settings here small more line there plan.act ≡ after
  next_is = λ i. record {
    at = (ap (λ (s : Standing). onward_to s.halt line.next (length text)) (sym passed) ∙ sym onward) i;
    number = sym counted i;
    heads = (sym planned i).heads;
    standing = sym passed i;
    waiting = waits i;
  }

  planned_act : (plan_of settings here.heads (take (line.end - here.at) (drop here.at text))).act ≡ plan.act
  planned_act = ap (λ (p : Plan). p.act) (sym planned)

  less_left : length text - at < length text - here.at
  less_left = subst (λ (s : Stage). length text - s.at < length text - here.at) next_is (further_on text settings small here here (sets_out text settings here) more line there plan.act planned_act)

  -- its row does not wait
  one_more : (from : Stage) → OnTheWay text settings from here → waiting ≡ None → OnTheWay text settings from after
  one_more from w none = subst (OnTheWay text settings from) next_is (one_line text settings small from here w more line there plan.act planned_act (waits ∙ none))

  -- or it does
  row_waits : (from : Stage) → OnTheWay text settings from here → is_waiting waiting ≡ true → GoesOnTo text settings from after
  row_waits from w some = subst (GoesOnTo text settings from) next_is (row_met text settings small from here w more line there plan.act planned_act (ap is_waiting waits ∙ some))

pub loop-now-init : goal.loop-now-init
loop-now-init c = (sets_out c.args.text.now c.args.settings _, refl)

pub slice_bounds-plan_of-count : goal.slice_bounds-plan_of-count
slice_bounds-plan_of-count c = let l = c.line_from-line.ensures.line c.loop-now-test.true in omega (arith, l.starts, l.onward)

pub slice_bounds-plan_of-start : goal.slice_bounds-plan_of-start
slice_bounds-plan_of-start c = let l = c.line_from-line.ensures.line c.loop-now-test.true in omega (arith, l.starts, l.onward)

pub slice_bounds-plan_of-end : goal.slice_bounds-plan_of-end
slice_bounds-plan_of-end c = let l = c.line_from-line.ensures.line c.loop-now-test.true in omega (arith, l.onward, l.inside)

pub returns-in-Keep : goal.returns-in-Keep
returns-in-Keep c =
    let small : suc (length c.args.text.now) < 2 ^ 64 = omega arith in
    let now = c.loop-now.now in
    row_waits c.args.text.now c.args.settings now small c.loop-now-test.true c.line_from-line.result (c.line_from-line.ensures.line c.loop-now-test.true)
    c.plan_of-plan.result c.plan_of-plan.ensures _ (ap (waiting_by now.number) c.in-Keep.is)
    c.pass_act-standing.result c.pass_act-standing.ensures c.onward.result c.onward.ensures c.number_after.result c.number_after.ensures
    _ c.loop-now.invariant.0 refl

pub loop-now-smaller : goal.loop-now-smaller
loop-now-smaller c =
    let small : suc (length c.args.text.now) < 2 ^ 64 = omega arith in
    let now = c.loop-now.now in
    less_left c.args.text.now c.args.settings now small c.loop-now-test.true c.line_from-line.result (c.line_from-line.ensures.line c.loop-now-test.true)
    c.plan_of-plan.result c.plan_of-plan.ensures _ (none_kept now.number c.plan_of-plan.result.act c.in_default.not-Keep)
    c.pass_act-standing.result c.pass_act-standing.ensures c.onward.result c.onward.ensures c.number_after.result c.number_after.ensures

pub loop-now-preserved : goal.loop-now-preserved
loop-now-preserved c =
    let small : suc (length c.args.text.now) < 2 ^ 64 = omega arith in
    let now = c.loop-now.now in
    let on = one_more c.args.text.now c.args.settings now small c.loop-now-test.true c.line_from-line.result (c.line_from-line.ensures.line c.loop-now-test.true)
    c.plan_of-plan.result c.plan_of-plan.ensures _ (none_kept now.number c.plan_of-plan.result.act c.in_default.not-Keep)
    c.pass_act-standing.result c.pass_act-standing.ensures c.onward.result c.onward.ensures c.number_after.result c.number_after.ensures
    _ c.loop-now.invariant.0 refl in
    (on, refl)

pub returns : goal.returns
returns c = at_end_lem c.args.text.now c.args.settings _ _ c.loop-now.invariant.0 c.loop-now.invariant.1 c.loop-now-test.false
