-- Lines put together to a text, each with an ending of its own: 10, or 13 10. What comes behind the last ending needs none.
use Rattle.std.specs.Prelude.{List, [], ◌∷◌, ◌++◌, ℕ}

pub data Ending : Type 0 where
  feed : Ending
  return_and_feed : Ending

abbrev pub ending_bytes : Ending → List ℕ
ending_bytes feed = 10 ∷ []
ending_bytes return_and_feed = 13 ∷ 10 ∷ []

pub record Ended : Type 0 where
  pub line : List ℕ
  pub ending : Ending

unfoldable pub together : List Ended → List ℕ → List ℕ
together [] last = last
together (e ∷ ended) last = e.line ++ (ending_bytes e.ending ++ together ended last)

-- nothing behind the last ending is no line
abbrev pub last_line : List ℕ → List (List ℕ)
last_line [] = []
last_line (b ∷ bs) = (b ∷ bs) ∷ []
