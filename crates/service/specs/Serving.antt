-- Text in, text out: a text is read, and the model that it gives is written. What is read is well formed, so that refusal 12 is never given.
use Rattle.std.specs.Prelude.{◌≡◌, List, ℕ, length, Result, Ok, Err}
use Rattle.std.proofs.lemmas.List.Edits.{sets}
use Rattle.building.specs.Holds.{sizes_of}
use Rattle.building.specs.declared.sites.Counts.{Counts}
use Rattle.model.specs.Lent.{Lent, room_of, holding, empty_model}
use Rattle.model.specs.Records.{Model}
use Rattle.model.specs.declared.room.Room.{Room}
use Rattle.readings.specs.Reading as readings
use Rattle.readings.specs.Reading.{Reading, read}
use Rattle.reader.specs.Reading.{read_of}
use Rattle.refusals.specs.Reasons.{at}
use Rattle.refusals.specs.declared.reasons.Refusal.{Refusal}
use Rattle.results.specs.declared.answers.Served.{Served}
use Rattle.rows.specs.declared.settings.Settings.{Settings}
use Rattle.writer.specs.Writing as writer
use Rattle.writer.specs.Writing.{Writing, written, writing_of, write_of}

pub data Serving : Type 0 where
  served : List ℕ → Model → Counts → Serving
  refused : Refusal → Serving

abbrev pub by_writing : Model → Counts → Writing → Serving
by_writing m counts (written text) = served text m counts
by_writing m counts (writer.refused why) = refused (at 0 why)

abbrev pub by_reading : ℕ → Reading → Serving
by_reading size (read m counts) = by_writing m counts (writing_of size m)
by_reading size (readings.refused why) = refused why

-- a text, in so much room, into a buffer of so many bytes
unfoldable pub serve_of : Settings → Room → ℕ → List ℕ → Serving
serve_of settings room size text = by_reading size (read_of settings room text)

-- ---- what is answered, and what is left in the records and in the buffer

abbrev pub answer_of : Serving → Result Served Refusal
answer_of (served text m counts) = Ok (record { written = length text; counts = counts })
answer_of (refused why) = Err why

-- on any refusal every record is zero
abbrev pub left_in : Lent → Serving → Lent
left_in l (served text m counts) = holding l m
left_in l (refused why) = holding l empty_model

-- and every byte stays
abbrev pub written_to : List ℕ → Serving → List ℕ
written_to out (served text m counts) = sets out 0 text
written_to out (refused why) = out

pub record Serves (settings : Settings) (l : Lent) (text out : List ℕ) (answer : Result Served Refusal) (after : Lent) (bytes : List ℕ) : Type 0 where
  pub answered : answer ≡ answer_of (serve_of settings (room_of l) (length out) text)
  pub left : after ≡ left_in l (serve_of settings (room_of l) (length out) text)
  pub written : bytes ≡ written_to out (serve_of settings (room_of l) (length out) text)

-- "Both have 64 chains, 512 residues, 1,024 atoms."
abbrev pub own_room : Room
own_room = record { chains = 64; residues = 512; atoms = 1024 }

pub record ServesOwn (settings : Settings) (text out : List ℕ) (answer : Result Served Refusal) (bytes : List ℕ) : Type 0 where
  pub answered : answer ≡ answer_of (serve_of settings own_room (length out) text)
  pub written : bytes ≡ written_to out (serve_of settings own_room (length out) text)

-- ---- the second half: what records hold is written

abbrev pub written_answer : Counts → Writing → Result Served Refusal
written_answer counts (written text) = Ok (record { written = length text; counts = counts })
written_answer counts (writer.refused why) = Err (at 0 why)

abbrev pub left_written : Lent → Writing → Lent
left_written l (written text) = l
left_written l (writer.refused why) = holding l empty_model

pub record WritesOut (l : Lent) (counts : Counts) (out : List ℕ) (answer : Result Served Refusal) (after : Lent) (bytes : List ℕ) : Type 0 where
  pub answered : answer ≡ written_answer counts (write_of l (sizes_of counts) (length out))
  pub left : after ≡ left_written l (write_of l (sizes_of counts) (length out))
  pub written : bytes ≡ writer.left_by out (write_of l (sizes_of counts) (length out))
