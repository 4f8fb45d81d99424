-- A field of each entry, taken before or after: insertion, stores, clearing and places go entry by entry, so a map commutes with them. This
-- relates several slices, one to a field, to one list of records.
use mathlib.Core.Path.{◌≡◌, refl, ap, ◌∙◌}
use mathlib.Core.List.{List, [], ◌∷◌, ◌++◌, map}
use mathlib.Core.Bool.{Bool, true}
use Prim.Native.Nat.{ℕ, zero, suc, ◌-◌}
use lib.ListN.{length, take, drop, set, replicate, length-map}
use Rattle.field_slices.specs.Clearing.{cleared}
use Rattle.field_slices.specs.Insertion.{ins}
use Rattle.field_slices.specs.Places.{Ascending, place_in}

module _ {A B : Type 0} (f : A → B) where
  pub map_ins : (i : ℕ) (v : A) (l : List A) → map f (ins i v l) ≡ ins i (f v) (map f l)
  unfolding ins
  map_ins zero v l = refl
  map_ins (suc i) v [] = refl
  map_ins (suc i) v (x ∷ l) = ap (λ (r : List B). f x ∷ r) (map_ins i v l)

  pub map_set : (l : List A) (i : ℕ) (v : A) → map f (set l i v) ≡ set (map f l) i (f v)
  map_set [] i v = refl
  map_set (x ∷ l) zero v = refl
  map_set (x ∷ l) (suc i) v = ap (λ (r : List B). f x ∷ r) (map_set l i v)

  pub map_take : (n : ℕ) (l : List A) → map f (take n l) ≡ take n (map f l)
  map_take zero l = refl
  map_take (suc n) [] = refl
  map_take (suc n) (x ∷ l) = ap (λ (r : List B). f x ∷ r) (map_take n l)

  pub map_drop : (n : ℕ) (l : List A) → map f (drop n l) ≡ drop n (map f l)
  map_drop zero l = refl
  map_drop (suc n) [] = refl
  map_drop (suc n) (x ∷ l) = map_drop n l

  map_join : (l m : List A) → map f (l ++ m) ≡ map f l ++ map f m
  map_join [] m = refl
  map_join (x ∷ l) m = ap (λ (r : List B). f x ∷ r) (map_join l m)

  map_replicate : (n : ℕ) (z : A) → map f (replicate n z) ≡ replicate n (f z)
  map_replicate zero z = refl
  map_replicate (suc n) z = ap (λ (r : List B). f z ∷ r) (map_replicate n z)

  pub map_cleared : (z : A) (keep : ℕ) (l : List A) → map f (cleared z keep l) ≡ cleared (f z) keep (map f l)
  unfolding cleared
  map_cleared z keep l = map_join (take keep l) (replicate (length l - keep) z) ∙ rw (map_take keep l, map_replicate (length l - keep) z, length-map)

  -- places and order among the records are those among the fields
  module _ (less : B → B → Bool) where
    pub map_place : (c : A) (l : List A) → place_in less (f c) (map f l) ≡ place_in (λ (x y : A). less (f x) (f y)) c l
    unfolding place_in
    map_place c [] = refl
    map_place c (x ∷ l) = rw (map_place c l)

    pub map_ascending : (l : List A) → Ascending less (map f l) ≡ Ascending (λ (x y : A). less (f x) (f y)) l
    unfolding Ascending
    map_ascending [] = refl
    map_ascending (x ∷ []) = refl
    map_ascending (x ∷ (y ∷ l)) = ap (λ (T : Type 0). (less (f x) (f y) ≡ true) × T) (map_ascending (y ∷ l))
