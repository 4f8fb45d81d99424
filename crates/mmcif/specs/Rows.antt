-- The rows of a text, by document 01's table of states and its row rules alone: what each line that is a row gives to the model.
use Rattle.std.specs.Prelude.{List, [], ◌∷◌, ◌++◌, ℕ, Option, Some, None, Result, Ok, Err}
use Rattle.refusals.specs.declared.reasons.Reason.{Reason}
use Rattle.lines.specs.Lines.{lines_of}
use Rattle.rows.specs.Fields.{fields_of}
use Rattle.rows.specs.Rules.{row_of}
use Rattle.rows.specs.declared.rules.Site.{Site}
use Rattle.rows.specs.declared.settings.Settings.{Settings}
use Rattle.line_states.specs.Heads.{start_heads}
use Rattle.line_states.specs.States.{moved_by}
use Rattle.line_states.specs.declared.heads.Heads.{Heads}
use Rattle.line_states.specs.declared.reading.Does.{Does}
use Rattle.line_states.specs.declared.reading.Does.TheVariants.{Nothing, TooManyHeaders}
use Rattle.model.specs.Taken.{Taken, skipped, site}

-- a row that is refused gives nothing
abbrev pub row_taken : Result (Option Site) Reason → List Taken
row_taken (Err why) = []
row_taken (Ok None) = skipped ∷ []
row_taken (Ok (Some s)) = site s ∷ []

abbrev pub taken_by : Does → Result (Option Site) Reason → List Taken
taken_by Nothing row = []
taken_by Does.Row row = row_taken row
taken_by TooManyHeaders row = []

unfoldable pub rows_from : Settings → Heads → List (List ℕ) → List Taken
rows_from settings heads [] = []
rows_from settings heads (line ∷ lines) =
    let moved = moved_by heads line in
    taken_by moved.does (row_of settings (fields_of moved.heads.columns line)) ++ rows_from settings moved.heads lines

abbrev pub rows_of : Settings → List ℕ → List Taken
rows_of settings text = rows_from settings start_heads (lines_of text)
