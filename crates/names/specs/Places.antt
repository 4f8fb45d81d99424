-- The place of a number in a list of numbers.
use Rattle.std.specs.Prelude.{ℕ, suc, List, [], ◌∷◌, Bool, true, ◌&&◌, cond, eqb, ltb, Option, Some, None}

abbrev pub next : Option ℕ → Option ℕ
next (Some i) = Some (suc i)
next None = None

-- where n stands in a list, first if it stands there twice
unfoldable pub place_of : ℕ → List ℕ → Option ℕ
place_of n [] = None
place_of n (x ∷ l) = cond (eqb x n) (Some 0) (next (place_of n l))

-- each number is less than the one after it
unfoldable pub ascends : List ℕ → Bool
ascends [] = true
ascends (x ∷ []) = true
ascends (x ∷ y ∷ l) = ltb x y && ascends (y ∷ l)
