-- An entry put in at an index of a list, for entries of any type.
use Rattle.std.specs.Prelude.{List, [], ◌∷◌, ℕ, zero, suc}

module _ {A : Type 0} where
  -- l with v put in at index i; as it is where i is past its end
  unfoldable pub ins : ℕ → A → List A → List A
  ins zero v l = v ∷ l
  ins (suc i) v [] = []
  ins (suc i) v (x ∷ l) = x ∷ ins i v l
