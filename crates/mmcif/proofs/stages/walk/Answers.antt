-- Row after row while one of the chain waits; where none waits at first, one turn.
use mathlib.Core.Path.{◌≡◌, refl, sym, ◌∙◌, subst}
use mathlib.Core.Bool.{Bool, true}
use mathlib.Core.List.{List, []}
use Prim.Native.Nat.{ℕ, suc, ◌^◌, ◌<◌}
use native.Mathlib.Omega.{arith}
use lib.ListN.{length}
use Rattle.std.proofs.Common.{rules}
use Rattle.std.specs.Prelude.{Option}
use Rattle.rows.specs.declared.settings.Settings.{Settings}
use Rattle.acts.specs.declared.doing.Standing.{Standing}
use Rattle.mmcif.specs.declared.stages.Stage.{Stage}
use Rattle.mmcif.specs.Stages.{run_of, onward_to, is_own, stage_at, GoesOnTo}
use Rattle.mmcif.proofs.StageLaws.{between}
use Rattle.mmcif.proofs.RunLaws.{none_yet, one_row, less, run_taken}
use Rattle.mmcif.proofs.stages.walk.Goals as goal

-- on from the row that was put in
goes : (text : List ℕ) (settings : Settings) (s : Stage) (kept : Standing) (at : ℕ) (to : Stage) → at ≡ onward_to kept.halt s.at (length text)
    → GoesOnTo text settings (stage_at at s.number s.heads kept) to → GoesOnTo text settings (between text settings s kept) to
goes text settings s kept at to e = subst (λ (n : ℕ). GoesOnTo text settings (stage_at n s.number s.heads kept) to) e

-- with a row of the chain
own : (stage to : Stage) (run : Option ℕ) (more : Bool) → run ≡ run_of stage.waiting → more ≡ is_own run to.waiting → more ≡ true → is_own (run_of stage.waiting) to.waiting ≡ true
own stage to run more is goes-on e = sym (goes-on ∙ (λ i. is_own (is i) to.waiting)) ∙ e

pub loop-settings-init : goal.loop-settings-init
loop-settings-init c = (search rules, search rules, λ chains. none_yet c.args.text.now c.args.settings c.args.room c.args.place c.args.stage _)

pub returns-then-not-is_own-clause-walks : goal.returns-then-not-is_own-clause-walks
returns-then-not-is_own-clause-walks c =
    let a = c.args in
    let small : suc (length a.text.now) < 2 ^ 64 = omega arith in
    let s = c.loop-settings.now in
    let kept = c.put_waiting-kept.result in
    let to = c.to_next_row-now.result in
    λ chains.
    run_taken a.text.now a.settings a.room a.place a.stage _ small s _ (c.loop-settings.invariant.2 chains) kept _ refl (c.put_waiting-kept.ensures.puts chains) to
    (goes a.text.now a.settings s kept _ to c.onward.ensures c.to_next_row-now.ensures)

pub loop-settings-smaller : goal.loop-settings-smaller
loop-settings-smaller c =
    let a = c.args in
    let small : suc (length a.text.now) < 2 ^ 64 = omega arith in
    let s = c.loop-settings.now in
    let kept = c.put_waiting-kept.result in
    let to = c.to_next_row-now.result in
    less a.text.now a.settings a.room a.place a.stage _ small s _ (c.loop-settings.invariant.2 []) kept _ refl (c.put_waiting-kept.ensures.puts []) to
    (goes a.text.now a.settings s kept _ to c.onward.ensures c.to_next_row-now.ensures)
    (own a.stage to _ _ c.run_of-run.ensures c.is_own.ensures c.if-not-is_own.false)

pub loop-settings-preserved : goal.loop-settings-preserved
loop-settings-preserved c =
    let a = c.args in
    let small : suc (length a.text.now) < 2 ^ 64 = omega arith in
    let s = c.loop-settings.now in
    let kept = c.put_waiting-kept.result in
    let to = c.to_next_row-now.result in (
      search rules,
      search rules,
      λ chains.
          one_row a.text.now a.settings a.room a.place a.stage _ small s _ (c.loop-settings.invariant.2 chains) kept _ refl (c.put_waiting-kept.ensures.puts chains) to
          (goes a.text.now a.settings s kept _ to c.onward.ensures c.to_next_row-now.ensures)
          (own a.stage to _ _ c.run_of-run.ensures c.is_own.ensures c.if-not-is_own.false),
    )
