-- The counts of a reading, each as a count over the rows of the text.
use Rattle.std.specs.Prelude.{◌≡◌, Bool, true, false, List, [], ◌∷◌, ℕ, ◌+◌, length}
use Rattle.lines.specs.Lines.{lines_of}
use Rattle.rows.specs.declared.settings.Settings.{Settings}
use Rattle.line_states.specs.Heads.{start_heads}
use Rattle.line_states.specs.States.{moved_by}
use Rattle.line_states.specs.declared.heads.Heads.{Heads}
use Rattle.line_states.specs.declared.reading.Does.{Does}
use Rattle.line_states.specs.declared.reading.Does.TheVariants.{Nothing, TooManyHeaders}
use Rattle.model.specs.Lists.{count}
use Rattle.model.specs.Records.{Model}
use Rattle.model.specs.Rules.{outdone_in, assumed_in}
use Rattle.model.specs.Taken.{sites, skipped_in}
use Rattle.building.specs.declared.sites.Counts.{Counts}
use Rattle.mmcif.specs.Rows.{rows_of}

-- how many lines are rows, by document 01's table of states
abbrev pub is_row_by : Does → Bool
is_row_by Nothing = false
is_row_by Does.Row = true
is_row_by TooManyHeaders = false

unfoldable pub row_lines : Heads → List (List ℕ) → ℕ
row_lines heads [] = 0
row_lines heads (line ∷ lines) = let moved = moved_by heads line in count (is_row_by moved.does) + row_lines moved.heads lines

pub record Counted (settings : Settings) (text : List ℕ) (m : Model) (counts : Counts) : Type 0 where
  -- each line that is a row is counted
  pub lines : counts.rows ≡ row_lines start_heads (lines_of text)
  pub rows : counts.rows ≡ length (rows_of settings text)
  pub skipped : counts.skipped ≡ skipped_in (rows_of settings text)
  -- unskipped, not the kept row of their atom
  pub outdone : counts.outdone ≡ outdone_in (sites (rows_of settings text))
  -- unskipped, with an occupancy that was assumed
  pub assumed : counts.assumed ≡ assumed_in (sites (rows_of settings text))
  -- and those of the model
  pub chains : counts.chains ≡ length m.chains
  pub residues : counts.residues ≡ length m.residues
  pub atoms : counts.atoms ≡ length m.atoms
  pub sum : counts.rows ≡ counts.skipped + counts.outdone + counts.atoms
