-- What stands at indices, one after the other: parts, length and members.
use Prim.{tt}
use mathlib.Core.Path.{◌≡◌, refl, sym, ap, ◌∙◌, subst}
use mathlib.Core.Bool.{Bool, true}
use mathlib.Core.List.{List, [], ◌∷◌, ◌++◌}
use Prim.Native.Nat.{ℕ, zero, suc, ◌+◌, ◌≤◌, ◌<◌, compare, Ordering}
use native.Mathlib.Nat.{zero-add, add-zero}
use native.Mathlib.Omega.{arith}
use lib.ListN.{length}
use Rattle.numbers.proofs.Comparing.{Compared, compared}
use Rattle.model.specs.Lent.{list_from}
use Rattle.model.specs.Lists.{All}
use Rattle.ascii.specs.Lists.{every}
use Rattle.model.proofs.ListLaws.{left_of, right_of}

module _ {A : Type 0} (at : ℕ → A) where
  pub from_split : (i k e : ℕ) → list_from at i (k + e) ≡ list_from at i k ++ list_from at (i + k) e
  unfolding list_from
  from_split i zero e = ap (list_from at i) (zero-add e) ∙ ap (λ (n : ℕ). list_from at n e) (sym (add-zero i))
  from_split i (suc k) e =
      let more : suc k + e ≡ suc (k + e) = omega arith in
      let on : suc i + k ≡ i + suc k = omega arith in
      ap (list_from at i) more
      ∙ ap (λ (l : List A). at i ∷ l) (from_split (suc i) k e ∙ ap (λ (n : ℕ). list_from at (suc i) k ++ list_from at n e) on)

  pub from_length : (i k : ℕ) → length (list_from at i k) ≡ k
  unfolding list_from
  from_length i zero = refl
  from_length i (suc k) = ap suc (from_length (suc i) k)

  pub from_all : (P : A → Type 0) (i k j : ℕ) → All P (list_from at i k) → i ≤ j → j < i + k → P (at j)
  unfolding list_from
  from_all P i zero j a g h = absurd (omega arith)
  from_all P i (suc k) j a g h = go (compare i j) (compared i j) (λ l. from_all P (suc i) k j a.1 l (omega arith))
    where
      go : (o : Ordering) → Compared o i j → (suc i ≤ j → P (at j)) → P (at j)
      go Ordering.lt l f = f (omega arith)
      go Ordering.eq l f = subst (λ (n : ℕ). P (at n)) l a.0
      go Ordering.gt l f = absurd (omega arith)

  pub from_every : (p : A → Bool) (i k j : ℕ) → every p (list_from at i k) ≡ true → i ≤ j → j < i + k → p (at j) ≡ true
  from_every p i k j e g h = from_all (λ x. p x ≡ true) i k j (every_all (list_from at i k) e) g h
    where
      every_all : (l : List A) → every p l ≡ true → All (λ x. p x ≡ true) l
      every_all [] e = tt
      every_all (x ∷ l) e = (left_of (p x) (every p l) e, every_all l (right_of (p x) (every p l) e))
