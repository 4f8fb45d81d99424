-- Where a number stands in a list: at the first place that holds it; and in a list in ascending order a search by halves finds it, or that it is nowhere.
use mathlib.Core.Path.{◌≡◌, refl, sym, ap, ◌∙◌}
use mathlib.Core.Logic.{⊎_elim}
use mathlib.Core.List.{List, [], ◌∷◌, map}
use mathlib.Core.Bool.{Bool, true, false, cond, false≢true}
use Prim.Native.Nat.{ℕ, zero, suc, ◌≤◌, ◌<◌, suc-le-suc}
use native.Mathlib.Nat.{le_of_suc-le-suc, not-suc-le-zero, zero-lt-suc, eq-or-lt_of_le}
use native.Mathlib.Decide.{dec_lt}
use native.Mathlib.Omega.{arith}
use lib.Dec.{ltb, eqb}
use lib.ListN.{length, get_or, length-map}
use borrow.Author.Tests.{eq-eqb, ne_eqb, ltb-true}
use Rattle.std.specs.Prelude.{Option, Some, None, is_some, Result, Ok, Err}
use Rattle.std.specs.Result.{result_ok}
use Rattle.std.specs.List.Sorted.{IsSearchInRange, IsBinarySearchResult, IsNonDecreasingBy}
use Rattle.std.specs.Ordering.{nat_cmp, ordering_index}
use Rattle.std.proofs.lemmas.Bool.Decides.{nat_tests}
use Rattle.std.proofs.lemmas.Cmp.{ranked}
use Rattle.std.proofs.lemmas.List.Sorted.{IsNonDecreasingBy-from_default}
use Rattle.ascii.proofs.TestLaws.{left_of, right_of}
use Rattle.field_slices.specs.Places.{Ascending}
use Rattle.field_slices.proofs.OrderLaws.{numbers}
use Rattle.field_slices.proofs.PlaceLaws.{ascending_at}
use Rattle.names.specs.Places.{next, place_of, ascends}
use Rattle.names.proofs.TablesByTest.{answered}

-- ---- where a number stands
place_at : (n : ℕ) (l : List ℕ) (i : ℕ) → i < length l → get_or l i 0 ≡ n → ((k : ℕ) → k < i → get_or l k 0 ≡ n → ⊥) → place_of n l ≡ Some i
unfolding place_of
place_at n [] i h e b = absurd (not-suc-le-zero h)
place_at n (x ∷ l) zero h e b = rw (eq-eqb x n e)
place_at n (x ∷ l) (suc i) h e b =
    rw (ne_eqb x n (b 0 (zero-lt-suc i))) (ap next (place_at n l i (le_of_suc-le-suc h) e (λ k j. b (suc k) (suc-le-suc j))))

place_nowhere : (n : ℕ) (l : List ℕ) → ((k : ℕ) → k < length l → get_or l k 0 ≡ n → ⊥) → place_of n l ≡ None
unfolding place_of
place_nowhere n [] b = refl
place_nowhere n (x ∷ l) b = rw (ne_eqb x n (b 0 (zero-lt-suc (length l)))) (ap next (place_nowhere n l (λ k j. b (suc k) (suc-le-suc j))))

-- where it stands is in the list
pub place_within : (n : ℕ) (l : List ℕ) (i : ℕ) → Some i ≡ place_of n l → i < length l
unfolding place_of
place_within n [] i e = absurd (false≢true (ap is_some (sym e)))
place_within n (x ∷ l) i e = go (eqb x n) (place_of n l) (place_within n l) i e
  where
    go : (t : Bool) (p : Option ℕ) → ((i : ℕ) → Some i ≡ p → i < length l) → (i : ℕ) → Some i ≡ cond t (Some 0) (next p) → i < suc (length l)
    go true p h i e = let zero : i ≡ 0 = cc in omega arith
    go false (Some k) h i e = let later : i ≡ suc k = cc in omega (arith, h k refl)
    go false None h i e = absurd (false≢true (ap is_some (sym e)))

-- ---- in ascending order
ascending : (l : List ℕ) → ascends l ≡ true → Ascending ltb l
unfolding ascends Ascending
ascending [] e = tt
ascending (x ∷ []) e = (tt, tt)
ascending (x ∷ y ∷ l) e = (left_of (ltb x y) (ascends (y ∷ l)) e, ascending (y ∷ l) (right_of (ltb x y) (ascends (y ∷ l)) e))

-- ---- what a search by halves finds there, over entries with ascending keys
module _ {A : Type 0} (key : A → ℕ) (l : List A) (d : A) (n : ℕ) (a : ascends (map key l) ≡ true) where
  abbrev keys : List ℕ
  keys = map key l

  -- the key of the entry is the entry of the keys
  key_at : (i : ℕ) → i < length l → key (get_or l i d) ≡ get_or keys i 0
  key_at i h = answered key l d 0 i h

  less : (i k : ℕ) → i < k → k < length l → key (get_or l i d) < key (get_or l k d)
  less i k h j =
      let many = length-map l key in
      omega (arith, key_at i (omega arith), key_at k j, ltb-true (get_or keys i 0) (get_or keys k 0) (ascending_at numbers 0 keys (ascending keys a) i k h (omega arith)))

  comparisons_rise : IsNonDecreasingBy (λ x. ordering_index (nat_cmp (key x) n)) l
  comparisons_rise = IsNonDecreasingBy-from_default (λ x. ordering_index (nat_cmp (key x) n)) l d (λ i j le h.
      let rise : key (get_or l i d) ≤ key (get_or l j d) = ⊎_elim (λ e. omega (arith, ap (λ (k : ℕ). key (get_or l k d)) e)) (λ lt. omega (arith, less i j lt h)) (eq-or-lt_of_le le) in
      grind (arith, nat_tests))

  pub searched : (r : Result ℕ ℕ) → IsSearchInRange r (length l) → IsBinarySearchResult (λ x. nat_cmp (key x) n) l r → result_ok r ≡ place_of n keys
  searched (Ok i) within equal =
      let many = length-map l key in
      let here : key (get_or l i d) ≡ n = ranked _ n _ (sym (equal d)) in
      sym (place_at n keys i (omega arith) (sym (key_at i within) ∙ here) (λ k h e. omega (arith, less k i h within, key_at k (omega arith))))
  searched (Err i) within parted = sym (place_nowhere n keys (λ k j e. apart k (omega (arith, length-map l key)) e (dec_lt k i)))
    where
      apart : (k : ℕ) → k < length l → get_or keys k 0 ≡ n → Dec (k < i) → ⊥
      apart k j e (yes h) = let lower : key (get_or l k d) < n = ranked _ n _ (sym ((parted comparisons_rise).0 k d (omega arith) h)) in omega (arith, key_at k j)
      apart k j e (no h) = let higher : n < key (get_or l k d) = ranked _ n _ (sym ((parted comparisons_rise).1 k d (omega arith) j)) in omega (arith, key_at k j)
