-- Each index below n holds what is made for it, those from n on hold what they held, and the list is as long as it was.
use mathlib.Core.Path.{◌≡◌, refl, sym, ap, ◌∙◌}
use mathlib.Core.List.{List, map}
use Prim.Native.Nat.{ℕ, zero, suc, ◌+◌, ◌≤◌, ◌<◌, compare, Ordering}
use native.Mathlib.Nat.{not-suc-le-zero}
use native.Mathlib.Numerals.{add-one}
use native.Mathlib.Omega.{arith}
use lib.ListN.{length, get_or, take, set, length-set, length-map, get_or-map}
use lib.Seq.{length-take-le, get_or-set_same, get_or-set_other, get_or-take, ext_get_or}
use Rattle.numbers.proofs.Comparing.{Compared, compared}
use Rattle.finishing.specs.Filling.{filled}

-- an entry among the first n of a slice that holds a field of some records
pub field_at : {A B : Type 0} (field : B → A) (d : B) (l : List A) (n : ℕ) (m : List B) → take n l ≡ map field m → (i : ℕ) → i < n
    → get_or l i (field d) ≡ field (get_or m i d)
field_at {A} field d l n m e i h = sym (get_or-take n l i (field d) h) ∙ ap (λ (t : List A). get_or t i (field d)) e ∙ get_or-map field m i d

module _ {A : Type 0} (at : ℕ → A) where
  pub length_filled : (n : ℕ) (l : List A) → length (filled at n l) ≡ length l
  unfolding filled
  length_filled zero l = refl
  length_filled (suc n) l = length-set (filled at n l) n (at n) ∙ length_filled n l

  pub filled_past : (n : ℕ) (l : List A) (i : ℕ) (d : A) → n ≤ i → get_or (filled at n l) i d ≡ get_or l i d
  unfolding filled
  filled_past zero l i d h = refl
  filled_past (suc n) l i d h = get_or-set_other (filled at n l) n i (at n) d (λ e. omega arith) ∙ filled_past n l i d (omega arith)

  pub filled_on : (n : ℕ) (l : List A) {m k : List A} → m ≡ filled at n l → k ≡ set m n (at n) → k ≡ filled at (n + 1) l
  unfolding filled
  filled_on n l {m} {k} e f = f ∙ ap (λ (t : List A). set t n (at n)) e ∙ ap (λ (j : ℕ). filled at j l) (sym (add-one n))

  pub length_on : (n : ℕ) (v : A) (l m k : List A) → m ≡ filled at n l → k ≡ set m n v → length k ≡ length l
  length_on n v l m k e f = ap length f ∙ length-set m n v ∙ ap length e ∙ length_filled n l

  filled_below : (n : ℕ) (l : List A) (i : ℕ) (d : A) → i < n → i < length l → get_or (filled at n l) i d ≡ at i
  unfolding filled
  filled_below zero l i d h k = absurd (not-suc-le-zero h)
  filled_below (suc n) l i d h k = go (compare i n) (compared i n) (filled_below n l i d)
    where
      go : (o : Ordering) → Compared o i n → (i < n → i < length l → get_or (filled at n l) i d ≡ at i) → get_or (set (filled at n l) n (at n)) i d ≡ at i
      go Ordering.lt g r = get_or-set_other (filled at n l) n i (at n) d (λ e. omega arith) ∙ r g k
      go Ordering.eq g r =
          ap (λ (j : ℕ). get_or (set (filled at n l) n (at n)) j d) g
          ∙ get_or-set_same (filled at n l) n (at n) d (omega (arith, length_filled n l))
          ∙ ap at (sym g)
      go Ordering.gt g r = absurd (omega arith)

  -- where what is made for an index is made from the entry at it in another list
  pub filled_is : {B : Type 0} (f : B → A) (d : B) (n : ℕ) (l : List A) (m : List B) → n ≡ length m → n ≤ length l
      → ((i : ℕ) → i < n → at i ≡ f (get_or m i d)) → take n (filled at n l) ≡ map f m
  filled_is {B} f d n l m e h w =
      let long : length (take n (filled at n l)) ≡ n = length-take-le n (filled at n l) (omega (arith, length_filled n l)) in
      ext_get_or (f d) (take n (filled at n l)) (map f m) (long ∙ e ∙ sym (length-map m f))
      (λ i k. let q : i < n = omega arith in
      get_or-take n (filled at n l) i (f d) q ∙ filled_below n l i (f d) q (omega arith) ∙ w i q ∙ sym (get_or-map f m i d))
