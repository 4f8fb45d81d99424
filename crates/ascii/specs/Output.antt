-- A text put at a place of a lent buffer: whole where it fits, and else not a byte of it.
use Rattle.std.specs.Prelude.{◌≡◌, ℕ, ◌+◌, List, Bool, cond, leb, length, Result, Ok, Err}
use Rattle.std.proofs.lemmas.List.Edits.{sets}
use Rattle.ascii.specs.declared.output.NoRoom.{NoRoom}

-- a text stored from index at on: what the buffer then holds, and the place after it
pub record Stored (buffer : List ℕ) (at : ℕ) (text : List ℕ) (after : List ℕ) (next : ℕ) : Type 0 where
  pub bytes : after ≡ sets buffer at text
  pub place : next ≡ at + length text

-- ---- where there may be no room

-- the text fits into the buffer from index at on
abbrev pub fits : List ℕ → ℕ → List ℕ → Bool
fits buffer at text = leb (at + length text) (length buffer)

-- that there is no room for so many bytes
abbrev pub no_room : ℕ → NoRoom
no_room n = record { needed = n }

-- the place after the text, or how many bytes it needs
unfoldable pub placed_of : List ℕ → ℕ → List ℕ → Result ℕ NoRoom
placed_of buffer at text = cond (fits buffer at text) (Ok (at + length text)) (Err (no_room (length text)))

-- the buffer afterwards: the text's bytes from index at on, every other byte as it was
unfoldable pub buffer_after : List ℕ → ℕ → List ℕ → List ℕ
buffer_after buffer at text = cond (fits buffer at text) (sets buffer at text) buffer
