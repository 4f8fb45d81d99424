-- What `cmp` answers of two entries says which of them comes first, so what Rust's binary search answers is a place.
use mathlib.Core.Path.{◌≡◌, refl, sym, ap, ◌∙◌, subst}
use mathlib.Core.Logic.{◌⊎◌, inl, inr, ⊎_elim}
use mathlib.Core.List.{List, [], ◌∷◌}
use mathlib.Core.Bool.{Bool, true, false, false≢true}
use Prim.Native.Nat.{ℕ, zero, suc, ◌-◌, ◌≤◌, ◌<◌}
use native.Mathlib.Nat.{le_refl, eq-or-lt_of_le}
use native.Mathlib.Omega.{arith}
use lib.Dec.{ltb}
use lib.ListN.{length, get_or}
use borrow.Author.Tests.{lt-ltb}
use Rattle.std.specs.Prelude.{Result, Ok, Err}
use Rattle.std.proofs.Common.{Ordering, zero-le, Some, slice_get, is_some}
use Rattle.std.specs.Option.{unwrap_or}
use Rattle.std.specs.declared.cmp.Ordering.TheVariants.{Less, Equal, Greater}
use Rattle.std.specs.Ordering.{MatchOrdering, is_gt, nat_cmp, ordering_then, ordering_index}
use Rattle.std.specs.Cmp.{ranks}
use Rattle.std.specs.List.Sorted.{IsSearchInRange, IsBinarySearchResult, IsNonDecreasingBy}
use Rattle.field_slices.specs.Places.{Ascending, below, Found, FirstBelow}
use Rattle.field_slices.proofs.OrderLaws.{Order, asymmetric, numbers, by_both, below_first, below_second}
use Rattle.field_slices.proofs.PlaceLaws.{get_d_any, ascending_at, place_before, place_at}

-- an order, and a comparison that answers by it
pub record Ranking {A : Type 0} (less : A → A → Bool) (cmp : A → A → Ordering) : Type 0 where
  pub order : Order less
  pub ranks : (x y : A) → MatchOrdering (cmp x y) (less x y ≡ true) (x ≡ y) (less y x ≡ true)

pub number_ranking : Ranking ltb nat_cmp
number_ranking = record { order = numbers; ranks = λ x y. go x y (nat_cmp x y) (ranks x y) }
  where
    go : (x y : ℕ) (r : Ordering) → MatchOrdering r (x < y) (x ≡ y) (y < x) → MatchOrdering r (ltb x y ≡ true) (x ≡ y) (ltb y x ≡ true)
    go x y Less h = lt-ltb x y h
    go x y Equal h = h
    go x y Greater h = lt-ltb y x h

-- pairs, by the first and then by the second
abbrev pub pair_cmp : ℕ × ℕ → ℕ × ℕ → Ordering
pair_cmp p q = ordering_then (nat_cmp p.0 q.0) (nat_cmp p.1 q.1)

pub pair_ranking : Ranking below pair_cmp
pair_ranking = record { order = by_both; ranks = λ p q. go p q (nat_cmp p.0 q.0) (nat_cmp p.1 q.1) (ranks p.0 q.0) (ranks p.1 q.1) }
  where
    go : (p q : ℕ × ℕ) (r s : Ordering) → MatchOrdering r (p.0 < q.0) (p.0 ≡ q.0) (q.0 < p.0) → MatchOrdering s (p.1 < q.1) (p.1 ≡ q.1) (q.1 < p.1)
        → MatchOrdering (ordering_then r s) (below p q ≡ true) (p ≡ q) (below q p ≡ true)
    go p q Less s h k = below_first p q h
    go p q Equal Less h k = below_second p q h ∙ lt-ltb p.1 q.1 k
    go p q Equal Equal h k = λ i. (h i, k i)
    go p q Equal Greater h k = below_second q p (sym h) ∙ lt-ltb q.1 p.1 k
    go p q Greater s h k = below_first q p h

module _ {A : Type 0} {less : A → A → Bool} {cmp : A → A → Ordering} (o : Ranking less cmp) where
  -- ---- each answer, read in both directions
  means : (x y : A) (r : Ordering) → cmp x y ≡ r → MatchOrdering r (less x y ≡ true) (x ≡ y) (less y x ≡ true)
  means x y r e = subst (λ k. MatchOrdering k (less x y ≡ true) (x ≡ y) (less y x ≡ true)) e (o.ranks x y)

  pub less_from : (x y : A) → cmp x y ≡ Less → less x y ≡ true
  less_from x y e = means x y Less e

  pub same_from : (x y : A) → cmp x y ≡ Equal → x ≡ y
  same_from x y e = means x y Equal e

  pub more_from : (x y : A) → cmp x y ≡ Greater → less y x ≡ true
  more_from x y e = means x y Greater e

  pub to_less : (x y : A) → less x y ≡ true → cmp x y ≡ Less
  to_less x y h = go (cmp x y) (o.ranks x y)
    where
      go : (r : Ordering) → MatchOrdering r (less x y ≡ true) (x ≡ y) (less y x ≡ true) → r ≡ Less
      go Less k = refl
      go Equal k = absurd (false≢true (sym (subst (λ z. less x z ≡ false) k (o.order.irreflexive x)) ∙ h))
      go Greater k = absurd (false≢true (sym (asymmetric o.order y x k) ∙ h))

  -- ---- places in l
  module _ (l : List A) (x : A) where
    pub found_here : (d : A) {i : ℕ} → i < length l → cmp (get_or l i d) x ≡ Equal → Found less l x (Ok i)
    found_here d {i} h e =
        let f : get_or l i d ≡ x = same_from (get_or l i d) x e in
        record {
          inside = (h, get_d_any l i x d h ∙ f);
          place = λ s. sym (place_at o.order d x l i h (λ j k. subst (λ (y : A). less (get_or l j d) y ≡ true) f (ascending_at o.order d l s j i k h)) f);
        }

    pub found_gap : (d : A) {i : ℕ} → i ≤ length l → (Ascending less l → FirstBelow less d x l i × (i < length l → less x (get_or l i d) ≡ true)) → Found less l x (Err i)
    found_gap d {i} h f = record { inside = h; place = λ s. sym (place_before o.order d x l i h (f s).0 (f s).1) }

    -- where the list ascends, all before an entry that is not greater are less
    pub rises : (d : A) {i j : ℕ} → Ascending less l → i < j → j < length l → (cmp (get_or l j d) x ≡ Greater → ⊥) → cmp (get_or l i d) x ≡ Less
    rises d {i} {j} s h k n = to_less (get_or l i d) x (go (cmp (get_or l j d) x) refl (ascending_at o.order d l s i j h k))
      where
        go : (r : Ordering) → cmp (get_or l j d) x ≡ r → less (get_or l i d) (get_or l j d) ≡ true → less (get_or l i d) x ≡ true
        go Less e a = o.order.transitive (get_or l i d) (get_or l j d) x a (less_from (get_or l j d) x e)
        go Equal e a = subst (λ (y : A). less (get_or l i d) y ≡ true) (same_from (get_or l j d) x e) a
        go Greater e a = absurd (n e)

    -- what Rust's binary search answers
    index_below : (r s : Ordering) → (r ≡ s) ⊎ (((s ≡ Greater → ⊥) → r ≡ Less)) → ordering_index r ≤ ordering_index s
    index_below r s (inl e) = subst (λ k. ordering_index r ≤ ordering_index k) e (le_refl (ordering_index r))
    index_below Less s (inr f) = zero-le
    index_below r Greater (inr f) = most r
      where
        most : (r : Ordering) → ordering_index r ≤ 2
        most Less = omega arith
        most Equal = omega arith
        most Greater = omega arith
    index_below r Less (inr f) = subst (λ k. ordering_index k ≤ 0) (sym (f (λ e. absurd (false≢true (ap is_gt e))))) zero-le
    index_below r Equal (inr f) = subst (λ k. ordering_index k ≤ 1) (sym (f (λ e. absurd (false≢true (ap is_gt e))))) zero-le

    rising : Ascending less l → IsNonDecreasingBy (λ y. ordering_index (cmp y x)) l
    rising s i j d h k = index_below (cmp (get_or l i d) x) (cmp (get_or l j d) x) (⊎_elim (λ e. inl (ap (λ n. cmp (get_or l n d) x) e)) (λ g. inr (rises d s g k)) (eq-or-lt_of_le h))

    pub found_search : (d : A) (r : Result ℕ ℕ) → IsSearchInRange r (length l) → IsBinarySearchResult (λ y. cmp y x) l r → Found less l x r
    found_search d (Ok i) h e = found_here d h (e d)
    found_search d (Err i) h e = found_gap d h (λ s. (λ j k. less_from (get_or l j d) x ((e (rising s)).0 j d zero-le k), λ k. more_from (get_or l i d) x ((e (rising s)).1 i d (le_refl i) k)))

    -- what a look at the last entry y says: x is behind it, or is it
    got : (k : List A) (i : ℕ) (y d : A) → Some y ≡ slice_get k i → (i < length k) × (get_or k i d ≡ y)
    got [] i y d e = absurd (false≢true (sym (ap is_some e)))
    got (z ∷ k) zero y d e = (omega arith, ap (λ r. unwrap_or r d) (sym e))
    got (z ∷ k) (suc i) y d e = let h = got k i y d e in (omega (arith, h.0), h.1)

    pub found_behind : (y : A) → Some y ≡ slice_get l (length l - 1) → less y x ≡ true → Found less l x (Err (length l))
    found_behind y e h = found_gap y (le_refl (length l)) (λ s. (λ j k. below s j k (got l (length l - 1) y y e), λ k. absurd (omega arith)))
      where
        below : Ascending less l → (j : ℕ) → j < length l → (length l - 1 < length l) × (get_or l (length l - 1) y ≡ y) → less (get_or l j y) x ≡ true
        below s j k g =
            ⊎_elim (λ (q : j ≡ length l - 1). ap (λ n. less (get_or l n y) x) q ∙ ap (λ z. less z x) g.1 ∙ h)
            (λ (q : j < length l - 1). o.order.transitive (get_or l j y) y x (subst (λ z. less (get_or l j y) z ≡ true) g.1 (ascending_at o.order y l s j (length l - 1) q g.0)) h)
            (eq-or-lt_of_le (omega arith))

    pub found_last : (y : A) → Some y ≡ slice_get l (length l - 1) → cmp y x ≡ Equal → Found less l x (Ok (length l - 1))
    found_last y e h = let g = got l (length l - 1) y y e in found_here y g.0 (ap (λ z. cmp z x) g.1 ∙ h)
