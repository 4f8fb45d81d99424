-- The sign that a number may begin with.
use Rattle.std.specs.Prelude.{ℕ, List, Bool, ◌||◌, cond, eqb, drop}
use Rattle.ascii.specs.Bytes.{byte, first}

unfoldable pub is_sign : ℕ → Bool
is_sign b = eqb b (byte "-") || eqb b (byte "+")

-- what follows the sign, all of the text where it has none
unfoldable pub after_sign : List ℕ → List ℕ
after_sign s = cond (is_sign (first s)) (drop 1 s) s
