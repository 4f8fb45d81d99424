-- When each refusal is given: document 01's table as statements about a text.
use Rattle.std.specs.Prelude.{◌≡◌, List, ◌∷◌, ◌++◌, ℕ, suc, ◌≤◌, ◌<◌, length, Some, Ok, Err}
use Rattle.refusals.specs.Reasons.{at}
use Rattle.refusals.specs.declared.details.RecordKind.{RecordKind}
use Rattle.refusals.specs.declared.reasons.Reason.{Reason}
use Rattle.refusals.specs.declared.reasons.Reason.TheVariants.{LineTooLong, TooManyHeaders, NoRoom}
use Rattle.refusals.specs.declared.reasons.Refusal.{Refusal}
use Rattle.tokens.specs.Longest.{longest}
use Rattle.rows.specs.declared.rules.Site.{Site}
use Rattle.rows.specs.Fields.{fields_of}
use Rattle.rows.specs.Rules.{row_of}
use Rattle.rows.specs.declared.settings.Settings.{Settings}
use Rattle.line_states.specs.Heads.{start_heads}
use Rattle.line_states.specs.States.{moved_by}
use Rattle.line_states.specs.declared.heads.Heads.{Heads}
use Rattle.line_states.specs.declared.reading.Does.{Does}
use Rattle.model.specs.Fold.{State, start}
use Rattle.model.specs.Room.{lacking}
use Rattle.model.specs.Taken.{site}
use Rattle.model.specs.declared.room.Room.{Room}
use Rattle.acts.specs.Making.{going, made}
use Rattle.readings.specs.Ends.{DoneInto}
use Rattle.mmcif.specs.Acts.{heads_after, acts_from, acts_of}

-- a line that is a row: the columns of its loop say what its fields are
pub record IsRow (heads : Heads) (line : List ℕ) : Type 0 where
  pub short : length line ≤ longest
  pub row : (moved_by heads line).does ≡ Does.Row

-- what a line earns, by its number, the state and the model before it
pub data Earns (settings : Settings) (room : Room) (number : ℕ) (heads : Heads) (st : State) (line : List ℕ) : Refusal → Type 0 where
  too_long : longest < length line → Earns settings room number heads st line (at number LineTooLong)
  headers : length line ≤ longest → (moved_by heads line).does ≡ Does.TooManyHeaders → Earns settings room number heads st line (at number TooManyHeaders)
  row_refused : (why : Reason) → IsRow heads line → row_of settings (fields_of (moved_by heads line).heads.columns line) ≡ Err why
      → Earns settings room number heads st line (at number why)
  no_room : (s : Site) (lack : RecordKind) → IsRow heads line → row_of settings (fields_of (moved_by heads line).heads.columns line) ≡ Ok (Some s)
      → lacking room st (site s) ≡ Some lack → Earns settings room number heads st line (at number (NoRoom lack))

-- the first line that earns a refusal
pub record FirstToEarn (settings : Settings) (room : Room) (lines : List (List ℕ)) (why : Refusal) : Type 0 where
  pub before : List (List ℕ)
  pub line : List ℕ
  pub after : List (List ℕ)
  pub among : lines ≡ before ++ line ∷ after
  pub st : State
  -- the lines before it are read
  pub read : made room start (acts_from settings 1 start_heads before) ≡ going st
  pub earns : Earns settings room (suc (length before)) (heads_after start_heads before) st line why

-- no line earns one
abbrev pub NoneEarns : Settings → Room → List (List ℕ) → Type 0
NoneEarns settings room lines = (why : Refusal) → FirstToEarn settings room lines why → ⊥

-- 1 and 2 let the text pass, and all its lines are read, and leave this state
abbrev pub ReadInto : Settings → Room → List ℕ → State → Type 0
ReadInto settings room text st = DoneInto room text (acts_of settings text) st
