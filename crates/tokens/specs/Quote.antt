-- How a name is written, so that it is read as one token.
use Rattle.std.specs.Prelude.{ℕ, Bool, true, false, ◌&&◌, ◌||◌, not, cond, List, [], ◌∷◌, ◌++◌, eqb}
use Rattle.ascii.specs.Bytes.{byte, bytes}
use Rattle.tokens.specs.Kinds.{is_plain}

-- b stands in s
unfoldable pub has : ℕ → List ℕ → Bool
has b [] = false
has b (c ∷ s) = eqb c b || has b s

-- no blank and no quote stands in s
unfoldable pub all_plain : List ℕ → Bool
all_plain [] = true
all_plain (b ∷ s) = is_plain b && all_plain s

-- a name that has ' without " is put in ", any other in '
abbrev pub quote_for : List ℕ → ℕ
quote_for name = cond (has (byte "'") name && not (has (byte "\"") name)) (byte "\"") (byte "'")

abbrev pub in_quotes : ℕ → List ℕ → List ℕ
in_quotes q name = q ∷ (name ++ q ∷ [])

-- an empty name is written ?, one with no blank and no quote bare, any other in quotes
unfoldable pub quote_of : List ℕ → List ℕ
quote_of [] = bytes "?"
quote_of (b ∷ s) = cond (all_plain (b ∷ s)) (b ∷ s) (in_quotes (quote_for (b ∷ s)) (b ∷ s))
