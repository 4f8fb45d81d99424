-- A plan has the line's act, and where that goes on the state after the line.
use mathlib.Core.Path.{◌≡◌, refl, ap}
use mathlib.Core.List.{List}
use Prim.Native.Nat.{ℕ, ◌≤◌, ◌<◌}
use lib.ListN.{length}
use borrow.Author.Tests.{lt-ltb, le-ltb}
use Rattle.refusals.specs.declared.reasons.Reason.TheVariants.{LineTooLong}
use Rattle.tokens.specs.Longest.{longest}
use Rattle.rows.specs.declared.settings.Settings.{Settings}
use Rattle.line_states.specs.States.{moved_by}
use Rattle.line_states.specs.declared.heads.Heads.{Heads}
use Rattle.acts.specs.declared.act.Act.TheVariants.{Refuse}
use Rattle.mmcif.specs.declared.plans.Plan.{Plan}
use Rattle.mmcif.specs.Acts.{moved_act, line_act}
use Rattle.mmcif.specs.Plans.{plan_of}

module _ (settings : Settings) (heads : Heads) (line : List ℕ) where
  pub plan_long : longest < length line → plan_of settings heads line ≡ record { heads = heads; act = Refuse LineTooLong }
  unfolding plan_of line_act
  plan_long h = rw (lt-ltb _ _ h)

  pub plan_within : length line ≤ longest → plan_of settings heads line ≡ record { heads = (moved_by heads line).heads; act = moved_act settings line (moved_by heads line) }
  unfolding plan_of line_act
  plan_within h = rw (le-ltb _ _ h)

  pub plan_act : (plan_of settings heads line).act ≡ line_act settings heads line
  unfolding plan_of
  plan_act = refl

  pub plan_heads : length line ≤ longest → (plan_of settings heads line).heads ≡ (moved_by heads line).heads
  plan_heads h = ap (λ (p : Plan). p.heads) (plan_within h)
