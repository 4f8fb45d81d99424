-- The runs of a list have its members and no others; and what is made of the runs has the runs of what is made of the list, since equal numbers stay equal.
use mathlib.Core.Path.{◌≡◌, refl, sym, ap, ◌∙◌, subst}
use mathlib.Core.Bool.{Bool, true, false, cond}
use mathlib.Core.Logic.{◌⊎◌, inl, inr}
use mathlib.Core.List.Memᴰ
use mathlib.Core.List.{List, [], ◌∷◌, map, Memᴰ}
use Prim.Native.Nat.{ℕ}
use lib.Dec.{eqb}
use borrow.Author.Tests.{eqb-true, eq-eqb}
use Rattle.model.specs.WellFormed.{runs_after, runs_of}

-- ---- members
put_first : (y x : ℕ) (l : List ℕ) → (y ≡ x) ⊎ Memᴰ y l → Memᴰ y (x ∷ l)
put_first y x l (inl q) = Memᴰ.head q
put_first y x l (inr k) = Memᴰ.tail k

in_after : (x : ℕ) (l : List ℕ) (y : ℕ) → Memᴰ y l → (y ≡ x) ⊎ Memᴰ y (runs_after x l)
unfolding runs_after
in_after x [] y d = absurd (Memᴰ.not-nil d)
in_after x (z ∷ l) y d = go (eqb x z) refl (Memᴰ.cases_cons d) (in_after x l y) (in_after z l y)
  where
    go : (t : Bool) → eqb x z ≡ t → (y ≡ z) ⊎ Memᴰ y l → (Memᴰ y l → (y ≡ x) ⊎ Memᴰ y (runs_after x l)) → (Memᴰ y l → (y ≡ z) ⊎ Memᴰ y (runs_after z l))
        → (y ≡ x) ⊎ Memᴰ y (cond t (runs_after x l) (z ∷ runs_after z l))
    go true e (inl q) r s = inl (q ∙ sym (eqb-true x z e))
    go true e (inr k) r s = r k
    go false e (inl q) r s = inr (Memᴰ.head q)
    go false e (inr k) r s = inr (put_first y z (runs_after z l) (s k))

pub in_runs_lem : (l : List ℕ) (y : ℕ) → Memᴰ y l → Memᴰ y (runs_of l)
in_runs_lem [] y d = d
in_runs_lem (x ∷ l) y d = go (Memᴰ.cases_cons d)
  where
    go : (y ≡ x) ⊎ Memᴰ y l → Memᴰ y (x ∷ runs_after x l)
    go (inl q) = Memᴰ.head q
    go (inr k) = put_first y x (runs_after x l) (in_after x l y k)

from_after : (x : ℕ) (l : List ℕ) (y : ℕ) → Memᴰ y (runs_after x l) → Memᴰ y l
unfolding runs_after
from_after x [] y d = d
from_after x (z ∷ l) y d = go (eqb x z) d (from_after x l y) (from_after z l y)
  where
    one : (Memᴰ y (runs_after z l) → Memᴰ y l) → (y ≡ z) ⊎ Memᴰ y (runs_after z l) → Memᴰ y (z ∷ l)
    one s (inl q) = Memᴰ.head q
    one s (inr k) = Memᴰ.tail (s k)

    go : (t : Bool) → Memᴰ y (cond t (runs_after x l) (z ∷ runs_after z l)) → (Memᴰ y (runs_after x l) → Memᴰ y l) → (Memᴰ y (runs_after z l) → Memᴰ y l) → Memᴰ y (z ∷ l)
    go true d r s = Memᴰ.tail (r d)
    go false d r s = one s (Memᴰ.cases_cons d)

pub from_runs : (l : List ℕ) (y : ℕ) → Memᴰ y (runs_of l) → Memᴰ y l
from_runs [] y d = d
from_runs (x ∷ l) y d = go (Memᴰ.cases_cons d)
  where
    go : (y ≡ x) ⊎ Memᴰ y (runs_after x l) → Memᴰ y (x ∷ l)
    go (inl q) = Memᴰ.head q
    go (inr k) = Memᴰ.tail (from_after x l y k)

-- ---- what is made of them
after_made : (f : ℕ → ℕ) (x : ℕ) (l : List ℕ) → runs_after (f x) (map f l) ≡ runs_after (f x) (map f (runs_after x l))
unfolding runs_after
after_made f x [] = refl
after_made f x (y ∷ l) = go (eqb x y) refl (after_made f x l) (after_made f y l)
  where
    other : (t : Bool) → eqb (f x) (f y) ≡ t → runs_after (f y) (map f l) ≡ runs_after (f y) (map f (runs_after y l))
        → cond t (runs_after (f x) (map f l)) (f y ∷ runs_after (f y) (map f l)) ≡ cond t (runs_after (f x) (map f (runs_after y l))) (f y ∷ runs_after (f y) (map f (runs_after y l)))
    other true e s = subst (λ (z : ℕ). runs_after z (map f l) ≡ runs_after z (map f (runs_after y l))) (sym (eqb-true (f x) (f y) e)) s
    other false e s = ap (λ (r : List ℕ). f y ∷ r) s

    go : (t : Bool) → eqb x y ≡ t → runs_after (f x) (map f l) ≡ runs_after (f x) (map f (runs_after x l)) → runs_after (f y) (map f l) ≡ runs_after (f y) (map f (runs_after y l))
        → cond (eqb (f x) (f y)) (runs_after (f x) (map f l)) (f y ∷ runs_after (f y) (map f l)) ≡ runs_after (f x) (map f (cond t (runs_after x l) (y ∷ runs_after y l)))
    go true e r s = ap (λ (b : Bool). cond b (runs_after (f x) (map f l)) (f y ∷ runs_after (f y) (map f l))) (eq-eqb (f x) (f y) (ap f (eqb-true x y e))) ∙ r
    go false e r s = other (eqb (f x) (f y)) refl s

pub runs_made : (f : ℕ → ℕ) (l : List ℕ) → runs_of (map f l) ≡ runs_of (map f (runs_of l))
runs_made f [] = refl
runs_made f (x ∷ l) = ap (λ (r : List ℕ). f x ∷ r) (after_made f x l)
