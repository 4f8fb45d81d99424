-- Texts in a line, one blank between two.
use Rattle.std.specs.Prelude.{ℕ, List, [], ◌∷◌, ◌++◌}
use Rattle.ascii.specs.Bytes.{byte}

unfoldable pub spaced : List (List ℕ) → List ℕ
spaced [] = []
spaced (text ∷ []) = text
spaced (text ∷ (next ∷ texts)) = text ++ (byte " " ∷ spaced (next ∷ texts))
