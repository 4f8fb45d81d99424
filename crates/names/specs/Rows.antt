-- The rows of the table in ascending order of their names.
use Rattle.std.specs.Prelude.{ℕ, List, [], ◌∷◌, ◌++◌, map, cond, leb}
use Rattle.names.specs.Table.{Row, canonical, aliases}

unfoldable pub put : Row → List Row → List Row
put r [] = r ∷ []
put r (x ∷ l) = let later = x ∷ put r l in cond (leb r.name x.name) (r ∷ x ∷ l) later

unfoldable pub sorted : List Row → List Row
sorted [] = []
sorted (r ∷ l) = put r (sorted l)

unfoldable pub in_order : List Row
in_order = sorted (canonical ++ aliases)

unfoldable pub names : List Row → List ℕ
names l = map (λ (r : Row). r.name) l
