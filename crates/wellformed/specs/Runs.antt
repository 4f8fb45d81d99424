-- How far a run of equal numbers reaches.
use Rattle.std.specs.Prelude.{cond, List, [], ◌∷◌, ℕ, suc, eqb}

-- how many from the front are x
unfoldable pub equals : ℕ → List ℕ → ℕ
equals x [] = 0
equals x (y ∷ l) = cond (eqb x y) (suc (equals x l)) 0
