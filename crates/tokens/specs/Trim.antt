-- A line without the blanks at its ends.
use Rattle.std.specs.Prelude.{ℕ, cond, List, [], ◌∷◌, eqb}
use Rattle.ascii.specs.Bytes.{byte, first}
use Rattle.tokens.specs.Kinds.{is_blank}

unfoldable pub trim_start : List ℕ → List ℕ
trim_start [] = []
trim_start (b ∷ s) = cond (is_blank b) (trim_start s) (b ∷ s)

-- b before what is left behind it: nothing where b is a blank and nothing is left
abbrev pub keep : ℕ → List ℕ → List ℕ
keep b [] = cond (is_blank b) [] (b ∷ [])
keep b (c ∷ s) = b ∷ (c ∷ s)

unfoldable pub trim_end : List ℕ → List ℕ
trim_end [] = []
trim_end (b ∷ s) = keep b (trim_end s)

abbrev pub trim : List ℕ → List ℕ
trim line = trim_end (trim_start line)

-- what of a line its tokens are made of: nothing where it begins #
unfoldable pub content_of : List ℕ → List ℕ
content_of line = cond (eqb (first (trim line)) (byte "#")) [] (trim line)
