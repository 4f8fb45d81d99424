-- A line's act with the state after it, as the code plans it.
use Rattle.std.specs.Prelude.{cond, List, ℕ, ltb, length}
use Rattle.tokens.specs.Longest.{longest}
use Rattle.rows.specs.declared.settings.Settings.{Settings}
use Rattle.line_states.specs.States.{moved_by}
use Rattle.line_states.specs.declared.heads.Heads.{Heads}
use Rattle.mmcif.specs.declared.plans.Plan.{Plan}
use Rattle.mmcif.specs.Acts.{line_act}

-- a line too long leaves the state as it was, and ends the reading
unfoldable pub plan_of : Settings → Heads → List ℕ → Plan
plan_of settings heads line = record {
  heads = cond (ltb longest (length line)) heads (moved_by heads line).heads;
  act = line_act settings heads line;
}
