-- `write_structure`: the text of a well-formed model in a lent buffer, or a refusal: 12, then 13, then 14.
use Rattle.std.specs.Prelude.{◌≡◌, ℕ, cond, List, leb, length, Option, None, Some, Result, Ok, Err}
use Rattle.std.proofs.lemmas.List.Edits.{sets}
use Rattle.refusals.specs.declared.reasons.Reason.{Reason}
use Rattle.refusals.specs.declared.reasons.Reason.TheVariants.{NotWellFormed, CannotBeWritten, OutputTooShort}
use Rattle.field_slices.specs.Slice.{Slice}
use Rattle.model.specs.Lent.{Lent, model_in}
use Rattle.model.specs.Records.{Model}
use Rattle.model.specs.WellFormed.{well_formed_in}
use Rattle.model.specs.declared.room.Room.{Room}
use Rattle.writer.specs.Text.{text_of}
use Rattle.writer.specs.Unwritable.{unwritable_in}

pub data Writing : Type 0 where
  written : List ℕ → Writing
  refused : Reason → Writing

-- 14: what the text needs, in a buffer of so many bytes
abbrev pub fitted : ℕ → List ℕ → Writing
fitted size text = cond (leb (length text) size) (written text) (refused (OutputTooShort (length text)))

-- 13
abbrev pub written_but : Option ℕ → ℕ → Model → Writing
written_but None size m = fitted size (text_of m)
written_but (Some id) size m = refused (CannotBeWritten id)

-- the text of a model that is well formed
abbrev pub writing_of : ℕ → Model → Writing
writing_of size m = written_but (unwritable_in m) size m

-- 12, and then that
unfoldable pub write_of : Lent → Room → ℕ → Writing
write_of l counts size = cond (well_formed_in l counts) (writing_of size (model_in l counts)) (refused NotWellFormed)

-- ---- what is answered, and what is left in the buffer

abbrev pub answer_of : Writing → Result ℕ Reason
answer_of (written text) = Ok (length text)
answer_of (refused why) = Err why

-- "Past the text written, output bytes stay", and on a refusal every one
abbrev pub left_by : List ℕ → Writing → List ℕ
left_by out (written text) = sets out 0 text
left_by out (refused why) = out

pub record Wrote (out : List ℕ) (writing : Writing) (answer : Result ℕ Reason) (after : List ℕ) : Type 0 where
  pub answered : answer ≡ answer_of writing
  pub left : after ≡ left_by out writing

-- into a lent buffer
abbrev pub Writes : Slice ℕ → (ℕ → Writing) → Result ℕ Reason → Type 0
Writes out writing answer = Wrote out.entry.now (writing (length out.entry.now)) answer out.exit.now
