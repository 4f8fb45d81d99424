-- What stands from an index on, in a slice that has so many: the part of the slice, and what is made of each of its entries.
use mathlib.Core.Path.{◌≡◌, refl, sym, ap, ◌∙◌}
use mathlib.Core.Bool.{Bool, ◌&&◌}
use mathlib.Core.List.{List, ◌∷◌, map}
use Prim.Native.Nat.{ℕ, zero, suc, ◌-◌, ◌≤◌, ◌<◌}
use native.Mathlib.Omega.{arith}
use lib.ListN.{length, get_or, take, drop, drop_of_length-le}
use lib.Seq.{drop-cons, length-take-le, get_or-take}
use Rattle.field_slices.specs.Places.{pairs}
use Rattle.field_slices.proofs.PairLaws.{length_first_pairs, first_pairs_at}
use Rattle.model.specs.Lent.{list_from}
use Rattle.ascii.specs.Lists.{every}
use Rattle.wellformed.specs.Slices.{entries}
use Rattle.wellformed.proofs.FromLaws.{rest, rest_all}

-- ---- parts of slices
module _ {A : Type 0} (at : ℕ → A) (d : A) (l : List A) (n : ℕ) (long : length l ≡ n) (same : (k : ℕ) → k < n → get_or l k d ≡ at k) where
  part : (i k : ℕ) → n - i ≡ k → list_from at i k ≡ drop i l
  unfolding list_from
  part i zero e = sym (drop_of_length-le l {i = i} (omega arith))
  part i (suc k) e =
      let h : i < n = omega arith in
      ap (λ (x : A). x ∷ list_from at (suc i) k) (sym (same i h))
      ∙ ap (λ (m : List A). get_or l i d ∷ m) (part (suc i) k (omega arith))
      ∙ sym (drop-cons l i d (omega arith))

  pub rest_is : (i : ℕ) → rest at n i ≡ drop i l
  rest_is i = part i (n - i) refl

pub all_is : (l : List ℕ) (n : ℕ) → n ≤ length l → list_from (entries l) 0 n ≡ take n l
all_is l n h = rest_all (entries l) n ∙ rest_is (entries l) 0 (take n l) n (length-take-le n l h) (λ k g. get_or-take n l k 0 g) 0

pub pairs_are : (l m : List ℕ) (n i : ℕ) → n ≤ length l → n ≤ length m → rest (λ k. (get_or l k 0, get_or m k 0)) n i ≡ drop i (take n (pairs l m))
pairs_are l m n i g h =
    rest_is (λ k. (get_or l k 0, get_or m k 0)) (0, 0) (take n (pairs l m)) n
    (length_first_pairs l m n ∙ omega arith)
    (λ k e. first_pairs_at l m n k e (omega arith) (omega arith))
    i

-- ---- what is made of each
pub map_from : {A B : Type 0} (f : A → B) (at : ℕ → A) (i n : ℕ) → map f (list_from at i n) ≡ list_from (λ k. f (at k)) i n
unfolding list_from
map_from f at i zero = refl
map_from {A} {B} f at i (suc n) = ap (λ (l : List B). f (at i) ∷ l) (map_from f at (suc i) n)

pub every_from : {A : Type 0} (p : A → Bool) (at : ℕ → A) (i n : ℕ) → every p (list_from at i n) ≡ every (λ k. p (at k)) (list_from (λ k. k) i n)
unfolding list_from
every_from p at i zero = refl
every_from p at i (suc n) = ap (λ (t : Bool). p (at i) && t) (every_from p at (suc i) n)
