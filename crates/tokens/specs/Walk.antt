-- What stands while the walk along a text looks for a token.
use Rattle.std.specs.Prelude.{ℕ, ◌≡◌, cond, List, [], eqb, length, get_or, drop}
use Rattle.std.proofs.lemmas.List.Edits.{sets}
use Rattle.tokens.specs.Tokens.{scan}

-- before the byte at index i: wanted is still ahead, left tokens are to pass before it, the token so far has len bytes, and the cell, which was old,
-- has of it what it must
pub record Going (text old wanted : List ℕ) (i quote left len : ℕ) (cell : List ℕ) : Type 0 where
  pub token : List ℕ
  pub long : len ≡ length token
  pub ahead : get_or (scan quote token (drop i text)) left [] ≡ wanted
  pub stored : cell ≡ sets old 0 (cond (eqb left 0) token [])

-- wanted is found, or there is none
abbrev pub Found : List ℕ → List ℕ → ℕ → List ℕ → Type 0
Found old wanted len cell = (len ≡ length wanted) × (cell ≡ sets old 0 wanted)
