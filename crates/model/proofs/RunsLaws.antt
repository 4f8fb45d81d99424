-- The runs of a list that rises are the ascending list of its members: a number that is met again is next to itself, so that each member begins one run.
use Prim.{tt}
use mathlib.Core.Path.{◌≡◌, refl, sym, ap, ◌∙◌, subst}
use mathlib.Core.Bool.{Bool, true, false, cond, false≢true}
use mathlib.Core.Logic.{◌⊎◌, inl, inr}
use mathlib.Core.List.Memᴰ
use mathlib.Core.List.{List, [], ◌∷◌, map, Memᴰ}
use Prim.Native.Nat.{ℕ, suc, ◌≤◌}
use native.Mathlib.Nat.{le_refl}
use native.Mathlib.Omega.{arith}
use lib.Dec.{eqb}
use borrow.Author.Tests.{eqb-true, eqb-false, eq-eqb}
use Rattle.model.specs.Map.{Map, AscendingFrom}
use Rattle.model.specs.WellFormed.{same_list, runs_after, runs_of}
use Rattle.model.proofs.ListLaws.{both, left_of, right_of}
use Rattle.model.proofs.WalkLaws.{RisingFrom}

-- each number is above the one before it, from b on
abbrev pub AscendsFrom : ℕ → List ℕ → Type 0
AscendsFrom b [] = Unit {0}
AscendsFrom b (x ∷ l) = (b ≤ x) × AscendsFrom (suc x) l

-- each member of l is one of m
abbrev pub Among : List ℕ → List ℕ → Type 0
Among l m = (x : ℕ) → Memᴰ x l → Memᴰ x m

rises_above : (b : ℕ) (l : List ℕ) → RisingFrom b l → (x : ℕ) → Memᴰ x l → b ≤ x
rises_above b [] a x d = absurd (Memᴰ.not-nil d)
rises_above b (y ∷ l) a x d = go (rises_above y l a.1 x) (Memᴰ.cases_cons d)
  where
    go : (Memᴰ x l → y ≤ x) → (x ≡ y) ⊎ Memᴰ x l → b ≤ x
    go r (inl e) = omega (arith, a.0)
    go r (inr m) = omega (arith, a.0, r m)

ascends_above : (b : ℕ) (l : List ℕ) → AscendsFrom b l → (x : ℕ) → Memᴰ x l → b ≤ x
ascends_above b [] a x d = absurd (Memᴰ.not-nil d)
ascends_above b (y ∷ l) a x d = go (ascends_above (suc y) l a.1 x) (Memᴰ.cases_cons d)
  where
    go : (Memᴰ x l → suc y ≤ x) → (x ≡ y) ⊎ Memᴰ x l → b ≤ x
    go r (inl e) = omega (arith, a.0)
    go r (inr m) = omega (arith, a.0, r m)

-- ---- the runs after x, which is itself no member of m
abbrev Ended : ℕ → List ℕ → Type 0
Ended x l = (m : List ℕ) → AscendsFrom (suc x) m → ((y : ℕ) → Memᴰ y l → (y ≡ x) ⊎ Memᴰ y m) → Among m l → runs_after x l ≡ m

-- a run that begins with x, once it is known what comes after it
begun : (b x : ℕ) (l m : List ℕ) → Ended x l → RisingFrom x l → AscendsFrom b m → Among (x ∷ l) m → Among m (x ∷ l) → x ∷ runs_after x l ≡ m
begun b x l [] r a c f g = absurd (Memᴰ.not-nil (f x (Memᴰ.head refl)))
begun b x l (z ∷ m) r a c f g = ap (λ (y : ℕ). y ∷ runs_after x l) same ∙ ap (λ (n : List ℕ). z ∷ n) (r m (subst (λ (y : ℕ). AscendsFrom (suc y) m) (sym same) c.1) later earlier)
  where
    least : (x ≡ z) ⊎ Memᴰ x m → z ≤ x
    least (inl e) = omega arith
    least (inr d) = omega (arith, ascends_above (suc z) m c.1 x d)

    most : (z ≡ x) ⊎ Memᴰ z l → x ≤ z
    most (inl e) = omega arith
    most (inr d) = rises_above x l a z d

    same : x ≡ z
    same = omega (arith, least (Memᴰ.cases_cons (f x (Memᴰ.head refl))), most (Memᴰ.cases_cons (g z (Memᴰ.head refl))))

    later : (y : ℕ) → Memᴰ y l → (y ≡ x) ⊎ Memᴰ y m
    later y d = go (Memᴰ.cases_cons (f y (Memᴰ.tail d)))
      where
        go : (y ≡ z) ⊎ Memᴰ y m → (y ≡ x) ⊎ Memᴰ y m
        go (inl e) = inl (e ∙ sym same)
        go (inr k) = inr k

    earlier : Among m l
    earlier y d = go (Memᴰ.cases_cons (g y (Memᴰ.tail d)))
      where
        go : (y ≡ x) ⊎ Memᴰ y l → Memᴰ y l
        go (inl e) = absurd (omega (arith, same, ascends_above (suc z) m c.1 y d))
        go (inr k) = k

runs_after_lem : (x : ℕ) (l : List ℕ) → RisingFrom x l → Ended x l
unfolding runs_after
runs_after_lem x [] a [] c f g = refl
runs_after_lem x [] a (y ∷ m) c f g = absurd (Memᴰ.not-nil (g y (Memᴰ.head refl)))
runs_after_lem x (y ∷ l) a m c f g = go (eqb x y) refl (λ w. runs_after_lem x l w) (runs_after_lem y l a.1)
  where
    go : (t : Bool) → eqb x y ≡ t → (RisingFrom x l → Ended x l) → Ended y l → cond t (runs_after x l) (y ∷ runs_after y l) ≡ m
    go true e r s =
        let q : x ≡ y = eqb-true x y e in
        r (subst (λ (z : ℕ). RisingFrom z l) (sym q) a.1) m c (λ z d. f z (Memᴰ.tail d)) (λ z d. past q z d (Memᴰ.cases_cons (g z d)))
      where
        past : x ≡ y → (z : ℕ) → Memᴰ z m → (z ≡ y) ⊎ Memᴰ z l → Memᴰ z l
        past q z d (inl k) = absurd (omega (arith, ascends_above (suc x) m c z d))
        past q z d (inr k) = k
    go false e r s = begun (suc x) y l m s a.1 c (λ z d. other z d (f z d)) g
      where
        other : (z : ℕ) → Memᴰ z (y ∷ l) → (z ≡ x) ⊎ Memᴰ z m → Memᴰ z m
        other z d (inl k) = absurd (eqb-false x y e (omega (arith, a.0, rises_above y (y ∷ l) (le_refl y, a.1) z d)))
        other z d (inr k) = k

-- ---- the theorem
pub runs_are : (b d : ℕ) (l m : List ℕ) → RisingFrom b l → AscendsFrom d m → Among l m → Among m l → runs_of l ≡ m
runs_are b d [] [] a c f g = refl
runs_are b d [] (y ∷ m) a c f g = absurd (Memᴰ.not-nil (g y (Memᴰ.head refl)))
runs_are b d (x ∷ l) m a c f g = begun d x l m (runs_after_lem x l a.1) a.1 c f g

-- ---- the test
pub same_list_lem : (l m : List ℕ) → l ≡ m → same_list l m ≡ true
same_list_lem l m e = subst (λ (n : List ℕ). same_list l n ≡ true) e (self l)
  where
    self : (l : List ℕ) → same_list l l ≡ true
    self [] = refl
    self (x ∷ l) = both (eqb x x) (same_list l l) (eq-eqb x x refl) (self l)

pub list_same : (l m : List ℕ) → same_list l m ≡ true → l ≡ m
list_same [] [] e = refl
list_same [] (y ∷ m) e = absurd (false≢true e)
list_same (x ∷ l) [] e = absurd (false≢true e)
list_same (x ∷ l) (y ∷ m) e =
    let h : x ≡ y = eqb-true x y (left_of (eqb x y) (same_list l m) e) in
    let t : l ≡ m = list_same l m (right_of (eqb x y) (same_list l m) e) in
    λ i. h i ∷ t i

-- ---- the keys of a map
pub keys_ascend : {W : Type 0} (b : ℕ) (m : Map W) → AscendingFrom b m → AscendsFrom b (map (λ e. e.key) m)
keys_ascend b [] a = tt
keys_ascend b (e ∷ m) a = (a.0, keys_ascend (suc e.key) m a.1)
