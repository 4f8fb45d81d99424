-- What stands while the walk copies the tokens of a text.
use Rattle.std.specs.Prelude.{◌≡◌, ℕ, ◌≤◌, List, ◌++◌, length, drop}
use Rattle.std.proofs.lemmas.List.Edits.{sets}
use Rattle.tokens.specs.Split.{joined, places_from}
use Rattle.tokens.specs.Tokens.{scan, tokens_from}

-- no token is empty, and no byte is copied twice
pub record Ordered (i begin len count : ℕ) : Type 0 where
  pub counted : count ≤ begin
  pub begins : begin ≤ len
  pub within : len ≤ i

-- before the byte at index i: the walk has copied count tokens whole and the next one so far, which begins at begin, len bytes in all, into what
-- were the cell and the places
pub record Copying (text cell₀ places₀ : List ℕ) (i quote begin len count : ℕ) (cell places : List ℕ) : Type 0 where
  pub whole : List (List ℕ)
  pub token : List ℕ
  pub ahead : tokens_from text ≡ whole ++ scan quote token (drop i text)
  pub many : count ≡ length whole
  pub begun : begin ≡ length (joined whole)
  pub long : len ≡ length (joined whole ++ token)
  pub bytes : cell ≡ sets cell₀ 0 (joined whole ++ token)
  pub placed : places ≡ sets places₀ 0 (places_from 0 whole)
