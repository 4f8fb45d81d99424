-- What clearing does, over any type of entry: as many entries as before, the first of them kept, the others zero. A loop that clears from
-- the left leaves, at each turn, a clearing from one entry further on.
use mathlib.Core.Path.{◌≡◌, refl, sym, ap, ◌∙◌}
use mathlib.Core.List.{List, [], ◌∷◌}
use Prim.Native.Nat.{ℕ, zero, suc, ◌+◌, ◌-◌, ◌≤◌, ◌<◌, min}
use native.Mathlib.Nat.{le_of_suc-le-suc, not-suc-le-zero, zero-sub, sub-zero, suc-sub-suc, zero-min, min-zero, suc-min-suc}
use native.Mathlib.Numerals.{add-one}
use lib.ListN.{length, take, drop, set, replicate, length-set}
use lib.Seq.{take-nil}
use Rattle.field_slices.specs.Clearing.{cleared}

module _ {A : Type 0} (z : A) where
  -- ---- the definition, by the list
  cleared_none : (keep : ℕ) → cleared z keep [] ≡ []
  unfolding cleared
  cleared_none keep = rw (take-nil, zero-sub)

  cleared_all : (l : List A) → cleared z 0 l ≡ replicate (length l) z
  unfolding cleared
  cleared_all l = rw sub-zero

  cleared_next : (keep : ℕ) (x : A) (l : List A) → cleared z (suc keep) (x ∷ l) ≡ x ∷ cleared z keep l
  unfolding cleared
  cleared_next keep x l = rw suc-sub-suc

  cleared_first : (x : A) (l : List A) → cleared z 0 (x ∷ l) ≡ z ∷ cleared z 0 l
  cleared_first x l = cleared_all (x ∷ l) ∙ ap (λ (r : List A). z ∷ r) (sym (cleared_all l))

  -- ---- the entries afterwards
  pub length_cleared : (keep : ℕ) (l : List A) → length (cleared z keep l) ≡ length l
  length_cleared keep [] = ap length (cleared_none keep)
  length_cleared zero (x ∷ l) = ap length (cleared_first x l) ∙ ap suc (length_cleared 0 l)
  length_cleared (suc keep) (x ∷ l) = ap length (cleared_next keep x l) ∙ ap suc (length_cleared keep l)

  pub first_cleared : (keep : ℕ) (l : List A) → take keep (cleared z keep l) ≡ take keep l
  first_cleared zero l = refl
  first_cleared (suc keep) [] = ap (take (suc keep)) (cleared_none (suc keep))
  first_cleared (suc keep) (x ∷ l) = ap (take (suc keep)) (cleared_next keep x l) ∙ ap (λ (r : List A). x ∷ r) (first_cleared keep l)

  pub rest_cleared : (keep : ℕ) (l : List A) → drop keep (cleared z keep l) ≡ replicate (length l - keep) z
  rest_cleared zero l = cleared_all l ∙ rw sub-zero
  rest_cleared (suc keep) [] = ap (drop (suc keep)) (cleared_none (suc keep)) ∙ rw zero-sub
  rest_cleared (suc keep) (x ∷ l) = ap (drop (suc keep)) (cleared_next keep x l) ∙ rest_cleared keep l ∙ rw suc-sub-suc

  pub cleared_past : (keep : ℕ) (l : List A) → length l ≤ keep → cleared z keep l ≡ l
  cleared_past keep [] h = cleared_none keep
  cleared_past zero (x ∷ l) h = absurd (not-suc-le-zero h)
  cleared_past (suc keep) (x ∷ l) h = cleared_next keep x l ∙ ap (λ (r : List A). x ∷ r) (cleared_past keep l (le_of_suc-le-suc h))

  -- twice is once, at the smaller place
  pub cleared_twice : (j k : ℕ) (l : List A) → cleared z j (cleared z k l) ≡ cleared z (min j k) l
  cleared_twice j k [] = ap (cleared z j) (cleared_none k) ∙ cleared_none j ∙ sym (cleared_none (min j k))
  cleared_twice zero k (x ∷ l) =
      cleared_all (cleared z k (x ∷ l)) ∙ ap (λ (n : ℕ). replicate n z) (length_cleared k (x ∷ l)) ∙ sym (cleared_all (x ∷ l))
      ∙ ap (λ (n : ℕ). cleared z n (x ∷ l)) (sym (zero-min k))
  cleared_twice (suc j) zero (x ∷ l) =
      ap (cleared z (suc j)) (cleared_first x l) ∙ cleared_next j z (cleared z 0 l) ∙ ap (λ (r : List A). z ∷ r) (cleared_twice j 0 l)
      ∙ ap (λ (n : ℕ). z ∷ cleared z n l) (min-zero j) ∙ sym (cleared_first x l) ∙ ap (λ (n : ℕ). cleared z n (x ∷ l)) (sym (min-zero (suc j)))
  cleared_twice (suc j) (suc k) (x ∷ l) =
      ap (cleared z (suc j)) (cleared_next k x l) ∙ cleared_next j x (cleared z k l) ∙ ap (λ (r : List A). x ∷ r) (cleared_twice j k l)
      ∙ sym (cleared_next (min j k) x l) ∙ ap (λ (n : ℕ). cleared z n (x ∷ l)) (sym (suc-min-suc j k))

  -- ---- the loop from the left
  one_more : (l : List A) (i : ℕ) → i < length l → cleared z (suc i) (set l i z) ≡ cleared z i l
  one_more [] i h = absurd (not-suc-le-zero h)
  one_more (x ∷ l) zero h = cleared_next 0 z l ∙ sym (cleared_first x l)
  one_more (x ∷ l) (suc i) h =
      cleared_next (suc i) x (set l i z) ∙ ap (λ (r : List A). x ∷ r) (one_more l i (le_of_suc-le-suc h)) ∙ sym (cleared_next i x l)

  -- the loop has still to clear s from i on
  pub record Clearing (l : List A) (keep : ℕ) (s : List A) (i : ℕ) : Type 0 where
    pub long : length s ≡ length l
    pub left : cleared z i s ≡ cleared z keep l

  module _ {l : List A} {keep : ℕ} where
    pub clearing_starts : Clearing l keep l keep
    clearing_starts = record { long = refl; left = refl }

    pub clearing_on : {s : List A} {i : ℕ} → Clearing l keep s i → i < length s → Clearing l keep (set s i z) (i + 1)
    clearing_on {s} {i} f h = record { long = length-set s i z ∙ f.long; left = rw add-one (one_more s i h) ∙ f.left }

    pub clearing_ends : {s : List A} {i : ℕ} → Clearing l keep s i → length s ≤ i → s ≡ cleared z keep l
    clearing_ends {s} {i} f h = sym (cleared_past i s h) ∙ f.left
