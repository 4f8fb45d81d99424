-- The first n entries of a slice, from an index on: none where the index is past them, else the entry there and those behind it.
use mathlib.Core.Path.{◌≡◌, ap, ◌∙◌}
use mathlib.Core.List.{List, [], ◌∷◌}
use Prim.Native.Nat.{ℕ, suc, ◌≤◌, ◌<◌, min}
use native.Mathlib.Omega.{arith}
use lib.ListN.{length, take, drop, get_or, length-take, drop_of_length-le}
use lib.Seq.{drop-cons, get_or-take}
use Rattle.field_slices.specs.Places.{pairs}
use Rattle.field_slices.proofs.PairLaws.{length_first_pairs, first_pairs_at}

module _ {A : Type 0} (l : List A) (n i : ℕ) where
  pub none_from : min n (length l) ≤ i → drop i (take n l) ≡ []
  none_from h = drop_of_length-le (take n l) {i = i} (omega (arith, length-take n l))

  pub one_from : (d : A) → i < min n (length l) → drop i (take n l) ≡ get_or l i d ∷ drop (suc i) (take n l)
  one_from d h = drop-cons (take n l) i d (omega (arith, length-take n l)) ∙ ap (λ (x : A). x ∷ drop (suc i) (take n l)) (get_or-take n l i d (omega arith))

-- ---- of two slices side by side
module _ (keys codes : List ℕ) (n i : ℕ) where
  pub no_pair_from : min n (min (length keys) (length codes)) ≤ i → drop i (take n (pairs keys codes)) ≡ []
  no_pair_from h = drop_of_length-le (take n (pairs keys codes)) {i = i} (omega (arith, length_first_pairs keys codes n))

  pub pair_from : i < min n (min (length keys) (length codes)) → drop i (take n (pairs keys codes)) ≡ (get_or keys i 0, get_or codes i 0) ∷ drop (suc i) (take n (pairs keys codes))
  pair_from h =
      drop-cons (take n (pairs keys codes)) i (0, 0) (omega (arith, length_first_pairs keys codes n))
      ∙ ap (λ (p : ℕ × ℕ). p ∷ drop (suc i) (take n (pairs keys codes))) (first_pairs_at keys codes n i (omega arith) (omega arith) (omega arith))
