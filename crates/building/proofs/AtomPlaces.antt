-- The order by key and then by name is that of the one number that they make, since a name is below the step of a key.
use Prim.{tt}
use mathlib.Core.Path.{◌≡◌, refl, sym, ap, ◌∙◌}
use mathlib.Core.List.{List, [], ◌∷◌, map}
use Prim.Native.Nat.{ℕ, ◌^◌, ◌<◌, compare, Ordering}
use native.Mathlib.Nat.{mod-lt}
use native.Mathlib.Omega.{arith}
use lib.Dec.{ltb}
use borrow.Author.Tests.{lt-ltb, le-ltb, ltb-true}
use Rattle.numbers.proofs.Comparing.{Compared, compared}
use Rattle.field_slices.specs.Places.{below, Ascending, place_in}
use Rattle.field_slices.proofs.OrderLaws.{below_first, below_not, below_second}
use Rattle.model.specs.Keys.{atom_place}
use Rattle.model.specs.Map.{Entry, Map}
use Rattle.model.specs.Finished.{key_part, name_part}
use Rattle.model.proofs.KeysGiveBack.{whole_place}
use Rattle.model.proofs.KeysTellApart.{split_place}
use Rattle.model.proofs.ListLaws.{same_test}
use Rattle.building.proofs.MapPlaces.{keys}

abbrev pub split : ℕ → ℕ × ℕ
split k = (key_part k, name_part k)

-- ---- the numbers
pub name_small : (k : ℕ) → name_part k < 2 ^ 64
name_small k = mod-lt k (omega arith)

pub parts : (key name : ℕ) → name < 2 ^ 64 → (key_part (atom_place key name) ≡ key) × (name_part (atom_place key name) ≡ name)
parts key name h = split_place _ _ _ _ (name_small (atom_place key name)) h (whole_place (atom_place key name))

by_number : (p q a b : ℕ) → a < 2 ^ 64 → b < 2 ^ 64 → below (p, a) (q, b) ≡ ltb (atom_place p a) (atom_place q b)
by_number p q a b h k = go (compare p q) (compared p q)
  where
    go : (o : Ordering) → Compared o p q → below (p, a) (q, b) ≡ ltb (atom_place p a) (atom_place q b)
    go Ordering.lt e = below_first (p, a) (q, b) e ∙ sym (lt-ltb (atom_place p a) (atom_place q b) (omega arith))
    go Ordering.gt e = below_not (p, a) (q, b) e ∙ sym (le-ltb (atom_place p a) (atom_place q b) (omega arith))
    go Ordering.eq e =
        below_second (p, a) (q, b) e
        ∙ same_test (ltb a b) (ltb (atom_place p a) (atom_place q b))
        (λ w. lt-ltb (atom_place p a) (atom_place q b) (omega (arith, ltb-true a b w)))
        (λ w. lt-ltb a b (omega (arith, ltb-true (atom_place p a) (atom_place q b) w)))

below_split : (a b : ℕ) → below (split a) (split b) ≡ ltb a b
below_split a b =
    by_number (key_part a) (key_part b) (name_part a) (name_part b) (name_small a) (name_small b)
    ∙ ap (λ (x : ℕ). ltb x (atom_place (key_part b) (name_part b))) (whole_place a)
    ∙ ap (ltb a) (whole_place b)

-- ---- lists of them
module _ {W : Type 0} where
  abbrev pub splits : Map W → List (ℕ × ℕ)
  splits m = map (λ (e : Entry W). split e.key) m

  pub place_split : (k : ℕ) (m : Map W) → place_in below (split k) (splits m) ≡ place_in ltb k (keys m)
  unfolding place_in
  place_split k [] = refl
  place_split k (e ∷ m) = rw (below_split e.key k, below_split k e.key, place_split k m)

  pub ascending_split : (m : Map W) → Ascending ltb (keys m) → Ascending below (splits m)
  unfolding Ascending
  ascending_split [] a = tt
  ascending_split (e ∷ []) a = (tt, tt)
  ascending_split (e ∷ (g ∷ m)) a = (below_split e.key g.key ∙ a.0, ascending_split (g ∷ m) a.1)
