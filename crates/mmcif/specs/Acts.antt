-- What an mmCIF text asks for, line by line: a line too long first, then what document 01's table of states says of it, and of a row what the row rules say.
use Rattle.std.specs.Prelude.{cond, List, [], ◌∷◌, ℕ, suc, ltb, length, Option, Some, None, Result, Ok, Err}
use Rattle.refusals.specs.declared.reasons.Reason.{Reason}
use Rattle.refusals.specs.declared.reasons.Reason.TheVariants as reason
use Rattle.tokens.specs.Longest.{longest}
use Rattle.lines.specs.Lines.{lines_of}
use Rattle.rows.specs.Fields.{fields_of}
use Rattle.rows.specs.Rules.{row_of}
use Rattle.rows.specs.declared.columns.Columns.{Columns}
use Rattle.rows.specs.declared.rules.Site.{Site}
use Rattle.rows.specs.declared.settings.Settings.{Settings}
use Rattle.line_states.specs.Heads.{start_heads}
use Rattle.line_states.specs.States.{moved_by}
use Rattle.line_states.specs.declared.heads.Heads.{Heads}
use Rattle.line_states.specs.declared.reading.Does.{Does}
use Rattle.line_states.specs.declared.reading.Does.TheVariants.{Nothing, TooManyHeaders}
use Rattle.line_states.specs.declared.reading.Moved.{Moved}
use Rattle.acts.specs.Acts.{Asked}
use Rattle.acts.specs.declared.act.Act.{Act}
use Rattle.acts.specs.declared.act.Act.TheVariants.{Pass, Skip, Keep, Refuse}

-- ---- one line

abbrev pub row_act : Result (Option Site) Reason → Act
row_act (Err why) = Refuse why
row_act (Ok None) = Skip
row_act (Ok (Some s)) = Keep s

abbrev pub act_by : Settings → List ℕ → Columns → Does → Act
act_by settings line columns Nothing = Pass
act_by settings line columns Does.Row = row_act (row_of settings (fields_of columns line))
act_by settings line columns TooManyHeaders = Refuse reason.TooManyHeaders

abbrev pub moved_act : Settings → List ℕ → Moved → Act
moved_act settings line moved = act_by settings line moved.heads.columns moved.does

-- in the state that the lines before it left
unfoldable pub line_act : Settings → Heads → List ℕ → Act
line_act settings heads line = cond (ltb longest (length line)) (Refuse reason.LineTooLong) (moved_act settings line (moved_by heads line))

-- ---- all lines

-- the state after them
unfoldable pub heads_after : Heads → List (List ℕ) → Heads
heads_after heads [] = heads
heads_after heads (line ∷ lines) = heads_after (moved_by heads line).heads lines

-- the first of them with this number
unfoldable pub acts_from : Settings → ℕ → Heads → List (List ℕ) → List Asked
acts_from settings number heads [] = []
acts_from settings number heads (line ∷ lines) =
    record { line = number; act = line_act settings heads line } ∷ acts_from settings (suc number) (moved_by heads line).heads lines

abbrev pub acts_of : Settings → List ℕ → List Asked
acts_of settings text = acts_from settings 1 start_heads (lines_of text)
