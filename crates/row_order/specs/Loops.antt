-- Where the rows of an atom loop stand in a text: which lines are rows, which are passed over among them, where rows are awaited, and what they give.
use Rattle.std.specs.Prelude.{Bool, true, false, not, ◌&&◌, ◌||◌, cond, List, [], ◌∷◌, ◌++◌, ℕ}
use Rattle.tokens.specs.Tokens.{tokens_of}
use Rattle.token_values.specs.Words.{is_loop, is_cell_item, is_item}
use Rattle.rows.specs.Fields.{fields_of}
use Rattle.rows.specs.Rules.{row_of}
use Rattle.rows.specs.declared.columns.Columns.{Columns}
use Rattle.rows.specs.declared.settings.Settings.{Settings}
use Rattle.line_states.specs.declared.heads.Heads.{Heads}
use Rattle.line_states.specs.declared.heads.State.{State}
use Rattle.line_states.specs.declared.heads.State.TheVariants.{Base, Header, AtomLoop, OtherLoop}
use Rattle.model.specs.Taken.{Taken}
use Rattle.mmcif.specs.Rows.{row_taken}

-- ---- lines, by their tokens

-- a blank line, a comment, or a line whose first token begins `_cell.`
abbrev pub are_passed_over : List (List ℕ) → Bool
are_passed_over [] = true
are_passed_over (token ∷ tokens) = is_cell_item token

abbrev pub is_passed_over : List ℕ → Bool
is_passed_over line = are_passed_over (tokens_of line)

-- the first token neither is `loop_` nor begins `_`
abbrev pub are_of_row : List (List ℕ) → Bool
are_of_row [] = false
are_of_row (token ∷ tokens) = not (is_loop token) && not (is_item token)

abbrev pub is_row : List ℕ → Bool
is_row line = are_of_row (tokens_of line)

-- what may stand where a loop has its rows
abbrev pub stands_among_rows : List ℕ → Bool
stands_among_rows line = is_row line || is_passed_over line

-- ---- the state

-- the headers of an atom loop have come, or some of its rows as well
abbrev pub awaits_in : State → Bool → Bool
awaits_in Base atoms = false
awaits_in Header atoms = atoms
awaits_in AtomLoop atoms = true
awaits_in OtherLoop atoms = false

abbrev pub awaits_rows : Heads → Bool
awaits_rows heads = awaits_in heads.state heads.atom_site

-- ---- what lines give to the model, in a loop of these columns

abbrev pub given_by : Settings → Columns → List ℕ → List Taken
given_by settings columns line = cond (is_row line) (row_taken (row_of settings (fields_of columns line))) []

abbrev pub given_in : Settings → Columns → List (List ℕ) → List Taken
given_in settings columns [] = []
given_in settings columns (line ∷ lines) = given_by settings columns line ++ given_in settings columns lines
