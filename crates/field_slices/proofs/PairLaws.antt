-- The entries of two slices side by side: as many as the shorter has, each made of the two at its index, so what is done to both slices at one
-- index is done to the pairs.
use mathlib.Core.Path.{◌≡◌, refl, sym, ap, ◌∙◌}
use mathlib.Core.List.{List, [], ◌∷◌, ◌++◌, map}
use Prim.Native.Nat.{ℕ, zero, suc, ◌<◌, min}
use native.Mathlib.Nat.{le_of_suc-le-suc, not-suc-le-zero, zero-min, min-zero, suc-min-suc}
use native.Mathlib.Omega.{arith}
use lib.ListN.{length, take, get_or, length-take}
use lib.Seq.{take-nil, get_or-take}
use Rattle.field_slices.specs.Places.{pairs}

-- no more entries are looked at than there are
pub first_counted : {A : Type 0} (n : ℕ) (l : List A) → take (min n (length l)) l ≡ take n l
first_counted n [] = ap (λ (m : ℕ). take m []) (min-zero n) ∙ sym (take-nil n)
first_counted {A} zero (x ∷ l) = ap (λ (m : ℕ). take m (x ∷ l)) (zero-min (suc (length l)))
first_counted {A} (suc n) (x ∷ l) = ap (λ (m : ℕ). take m (x ∷ l)) (suc-min-suc n (length l)) ∙ ap (λ (r : List A). x ∷ r) (first_counted n l)

pub length_pairs : (keys names : List ℕ) → length (pairs keys names) ≡ min (length keys) (length names)
unfolding pairs
length_pairs [] names = sym (zero-min (length names))
length_pairs (k ∷ keys) [] = sym (min-zero (suc (length keys)))
length_pairs (k ∷ keys) (m ∷ names) = ap suc (length_pairs keys names) ∙ sym (suc-min-suc (length keys) (length names))

pub pairs_at : (keys names : List ℕ) (j : ℕ) → j < length keys → j < length names → get_or (pairs keys names) j (0, 0) ≡ (get_or keys j 0, get_or names j 0)
unfolding pairs
pairs_at [] names j h k = absurd (not-suc-le-zero h)
pairs_at (x ∷ keys) [] j h k = absurd (not-suc-le-zero k)
pairs_at (x ∷ keys) (y ∷ names) zero h k = refl
pairs_at (x ∷ keys) (y ∷ names) (suc j) h k = pairs_at keys names j (le_of_suc-le-suc h) (le_of_suc-le-suc k)

pub take_pairs : (n : ℕ) (keys names : List ℕ) → take n (pairs keys names) ≡ pairs (take n keys) (take n names)
unfolding pairs
take_pairs zero keys names = refl
take_pairs (suc n) [] names = refl
take_pairs (suc n) (k ∷ keys) [] = refl
take_pairs (suc n) (k ∷ keys) (m ∷ names) = ap (λ (r : List (ℕ × ℕ)). (k, m) ∷ r) (take_pairs n keys names)

-- two fields of a list of records
pub map_pairs : {A : Type 0} (key name : A → ℕ) (l : List A) → pairs (map key l) (map name l) ≡ map (λ (a : A). (key a, name a)) l
unfolding pairs
map_pairs key name [] = refl
map_pairs key name (a ∷ l) = ap (λ (r : List (ℕ × ℕ)). (key a, name a) ∷ r) (map_pairs key name l)

-- ---- the first n of them
module _ (keys names : List ℕ) (n : ℕ) where
  pub length_first_pairs : length (take n (pairs keys names)) ≡ min n (min (length keys) (length names))
  length_first_pairs = length-take n (pairs keys names) ∙ ap (min n) (length_pairs keys names)

  pub first_pairs_at : (j : ℕ) → j < n → j < length keys → j < length names → get_or (take n (pairs keys names)) j (0, 0) ≡ (get_or keys j 0, get_or names j 0)
  first_pairs_at j g h k = get_or-take n (pairs keys names) j (0, 0) g ∙ pairs_at keys names j h k

-- ---- of slices in two parts
pub pairs_join : (keys names : List ℕ) (keys₂ names₂ : List ℕ) → length keys ≡ length names → pairs (keys ++ keys₂) (names ++ names₂) ≡ pairs keys names ++ pairs keys₂ names₂
unfolding pairs
pairs_join [] [] keys₂ names₂ e = refl
pairs_join [] (m ∷ names) keys₂ names₂ e = absurd (omega arith)
pairs_join (k ∷ keys) [] keys₂ names₂ e = absurd (omega arith)
pairs_join (k ∷ keys) (m ∷ names) keys₂ names₂ e = ap (λ (r : List (ℕ × ℕ)). (k, m) ∷ r) (pairs_join keys names keys₂ names₂ (omega arith))
