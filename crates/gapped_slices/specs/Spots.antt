-- Where an entry belongs among entries that ascend: Ok of its index where it is there, and Err of the index before which it goes where it is new.
use Rattle.std.specs.Prelude.{◌≡◌, Bool, List, ℕ, length, Result}
use Rattle.std.specs.List.Sorted.{IsSearchInRange}
use Rattle.field_slices.specs.Places.{Ascending, place_in}

-- what a look for c in l says: where l ascends, it is the walk's answer
pub record Spotted {A : Type 0} (less : A → A → Bool) (l : List A) (c : A) (r : Result ℕ ℕ) : Type 0 where
  pub inside : IsSearchInRange r (length l)
  pub place : Ascending less l → r ≡ place_in less c l
