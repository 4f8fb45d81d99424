-- A look in main, and where it finds nothing one in the pocket, says where a key is: by the places in both, in any order.
use mathlib.Core.Path.{◌≡◌, sym, ap, ◌∙◌, subst}
use mathlib.Core.Bool.{Bool}
use mathlib.Core.List.{List, []}
use Prim.Native.Nat.{ℕ, ◌<◌}
use native.Mathlib.Omega.{arith}
use lib.ListN.{length}
use Rattle.std.specs.Prelude.{Result, Ok, Err}
use Rattle.field_slices.specs.Places.{pairs, place_in}
use Rattle.field_slices.proofs.OrderLaws.{Order}
use Rattle.field_slices.proofs.PairLaws.{length_pairs}
use Rattle.field_slices.proofs.PlaceLaws.{Says, place_says}
use Rattle.gapped_slices.specs.Areas.{many, Lies, stand_of, entries_in}
use Rattle.gapped_slices.specs.declared.areas.Area.{Area}
use Rattle.gapped_slices.proofs.AreaLaws.{length_entries}
use Rattle.gapped_slices.specs.Spots.{Spotted}
use Rattle.building.specs.declared.stores.Store.{Store}
use Rattle.building.specs.Stores.{sought_by, Seeks}
use Rattle.building.proofs.AreaFields.{none_in}

-- two fields of the entries of an area, side by side
pub length_both : (a : Area) (keys names : List ℕ) → Lies a (length keys) → Lies a (length names) → length (pairs (entries_in a keys) (entries_in a names)) ≡ many a
length_both a keys names l k = length_pairs (entries_in a keys) (entries_in a names) ∙ omega (arith, length_entries a keys l, length_entries a names k)

pub none_of_both : (a : Area) (keys names : List ℕ) → many a ≡ 0 → pairs (entries_in a keys) (entries_in a names) ≡ []
unfolding pairs
none_of_both a keys names none = ap (λ (l : List ℕ). pairs l (entries_in a names)) (none_in a keys none)

module _ {A : Type 0} {less : A → A → Bool} (o : Order less) (d c : A) (main pocket : List A) (s : Store) where
  at_low : (l : List A) (i : ℕ) → place_in less c l ≡ Ok i → i < length l
  at_low l i e = (subst (Says o d c l) e (place_says o d c l)).0

  pub in_main : (i : ℕ) → Spotted less main c (Ok i) → length main ≡ many s.main → (at : ℕ) → (i < many s.main → at ≡ stand_of s.main i) → Seeks less main pocket c s (Ok at)
  in_main i f size at stands up down =
      let p = sym (f.place up) in
      let low = at_low main i p in
      (λ j. Ok (stands (omega (arith, low, size)) j)) ∙ sym (ap (λ (x : Result ℕ ℕ). sought_by s x (place_in less c pocket)) p)

  pub in_pocket : (i j : ℕ) → Spotted less main c (Err i) → Spotted less pocket c (Ok j) → length pocket ≡ many s.pocket → (at : ℕ) → (j < many s.pocket → at ≡ stand_of s.pocket j)
      → Seeks less main pocket c s (Ok at)
  in_pocket i j f g size at stands up down =
      let p = sym (f.place up) in
      let q = sym (g.place down) in
      let low = at_low pocket j q in
      (λ x. Ok (stands (omega (arith, low, size)) x)) ∙ sym (λ x. sought_by s (p x) (q x))

  pub nowhere : (i j : ℕ) → Spotted less main c (Err i) → Spotted less pocket c (Err j) → Seeks less main pocket c s (Err i)
  nowhere i j f g up down = λ x. sought_by s (f.place up x) (g.place down x)

  -- no look in an empty pocket
  pub none_in_pocket : (i : ℕ) → Spotted less main c (Err i) → pocket ≡ [] → Seeks less main pocket c s (Err i)
  unfolding place_in
  none_in_pocket i f none up down = sym (λ x. sought_by s (sym (f.place up) x) (place_in less c (none x)))
