-- The tokens of a line in a cell, one behind the other, and their places there: where each begins, and where the last ends.
use Rattle.std.specs.Prelude.{◌≡◌, ℕ, suc, ◌+◌, ◌-◌, ◌≤◌, cond, List, [], ◌∷◌, ◌++◌, ltb, length, get_or, take, drop}
use Rattle.tokens.specs.declared.split.Part.{Part}

unfoldable pub joined : List (List ℕ) → List ℕ
joined [] = []
joined (token ∷ tokens) = token ++ joined tokens

-- of tokens that stand in a cell from index n on
unfoldable pub places_from : ℕ → List (List ℕ) → List ℕ
places_from n [] = n ∷ []
places_from n (token ∷ tokens) = n ∷ places_from (n + length token) tokens

-- the k-th of n tokens, taken out of such a cell; empty where there are fewer
unfoldable pub token_in : List ℕ → List ℕ → ℕ → ℕ → List ℕ
token_in cell places n k = cond (ltb k n) (take (get_or places (suc k) 0 - get_or places k 0) (drop (get_or places k 0) cell)) []

-- a part of a cell, and what stands there
pub record IsPart (cell token : List ℕ) (part : Part) : Type 0 where
  pub ordered : part.start ≤ part.end
  pub within : part.end ≤ length cell
  pub there : take (part.end - part.start) (drop part.start cell) ≡ token

-- the token alone stands at the front of the cell, and is n bytes long
pub record Copied (token : List ℕ) (n : ℕ) (cell : List ℕ) : Type 0 where
  pub within : n ≤ length cell
  pub front : take n cell ≡ token
