-- A test of every entry of a list.
use Rattle.std.specs.Prelude.{Bool, true, ◌&&◌, List, [], ◌∷◌}

abbrev pub every : {S : Type 0} → (S → Bool) → List S → Bool
every test [] = true
every test (s ∷ l) = test s && every test l
