-- A text put at a place of a lent buffer. The place after it is told also where the buffer is too short, so that the code that writes a text tells its
-- length as well: over an empty buffer, to which it writes nothing.
use Rattle.std.specs.Prelude.{◌≡◌, ℕ, ◌+◌, ◌^◌, ◌≤◌, ◌<◌, List, length, Result, Ok, Err}
use Rattle.std.proofs.lemmas.List.Edits.{sets}
use Rattle.ascii.specs.declared.output.NoRoom.{NoRoom}
use Rattle.field_slices.specs.Slice.{Slice}

-- a text that begins at one place ends at the other, as long as places are numbers of 64 bits
abbrev pub Ends : ℕ → List ℕ → ℕ → Type 0
Ends at text next = at + length text < 2 ^ 64 → next ≡ at + length text

pub record Emitted (out : List ℕ) (at : ℕ) (text : List ℕ) (next : ℕ) (after : List ℕ) : Type 0 where
  pub place : Ends at text next
  pub same : length after ≡ length out
  pub bytes : at + length text ≤ length out → after ≡ sets out at text

-- the same of a lent buffer
abbrev pub Emits : Slice ℕ → ℕ → List ℕ → ℕ → Type 0
Emits out at text next = Emitted out.entry.now at text next out.exit.now

-- the place after a text, by what became of it
unfoldable pub place_after : ℕ → Result ℕ NoRoom → ℕ
place_after at (Ok next) = next
place_after at (Err short) = at + short.needed
