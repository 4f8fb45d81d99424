-- Tests and claims over a list.
use Prim.{Unit}
use Rattle.std.specs.Prelude.{Bool, true, false, ◌||◌, cond, List, [], ◌∷◌, ℕ}

module _ {S : Type 0} where
  -- those that pass, in their order
  abbrev pub filter : (S → Bool) → List S → List S
  filter p [] = []
  filter p (s ∷ l) = cond (p s) (s ∷ filter p l) (filter p l)

  abbrev pub any : (S → Bool) → List S → Bool
  any p [] = false
  any p (s ∷ l) = p s || any p l

  abbrev pub All : (S → Type 0) → List S → Type 0
  All P [] = Unit {0}
  All P (s ∷ l) = P s × All P l

abbrev pub count : Bool → ℕ
count true = 1
count false = 0
