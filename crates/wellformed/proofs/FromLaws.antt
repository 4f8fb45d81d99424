-- What stands from an index on is what stands there, and then what stands from the next index on; so a test of all of it is a test there, and one of the
-- rest.
use mathlib.Core.Path.{◌≡◌, refl, sym, ap, ◌∙◌}
use mathlib.Core.Bool.{Bool, true, false, ◌&&◌, ◌||◌, cond}
use mathlib.Core.List.{List, [], ◌∷◌}
use Prim.Native.Nat.{ℕ, zero, suc, ◌+◌, ◌-◌, ◌≤◌, ◌<◌}
use native.Mathlib.Numerals.{add-one}
use native.Mathlib.Omega.{arith}
use lib.Dec.{ltb}
use borrow.Author.Tests.{eq-eqb, ne_eqb, lt-ltb, le-ltb}
use Rattle.names.specs.Places.{ascends}
use Rattle.model.specs.Lent.{list_from}
use Rattle.model.specs.Lists.{any}
use Rattle.ascii.specs.Lists.{every}
use Rattle.wellformed.specs.Runs.{equals}

-- what stands from index i on, of n in all
abbrev pub rest : {A : Type 0} → (ℕ → A) → ℕ → ℕ → List A
rest at n i = list_from at i (n - i)

module _ {A : Type 0} (at : ℕ → A) (n i : ℕ) where
  pub rest_turn : i < n → rest at n i ≡ at i ∷ rest at n (i + 1)
  unfolding list_from
  rest_turn h = rw (add-one i) (ap (list_from at i) next)
    where
      next : n - i ≡ suc (n - suc i)
      next = omega arith

  pub rest_end : n ≤ i → rest at n i ≡ []
  unfolding list_from
  rest_end h = ap (list_from at i) none
    where
      none : n - i ≡ 0
      none = omega arith

-- all of them
pub rest_all : {A : Type 0} (at : ℕ → A) (n : ℕ) → list_from at 0 n ≡ rest at n 0
rest_all at n = ap (list_from at 0) (omega arith)

-- ---- tests of each
module _ {A : Type 0} (p : A → Bool) (at : ℕ → A) (n i : ℕ) where
  pub every_end : n ≤ i → every p (rest at n i) ≡ true
  every_end h = ap (every p) (rest_end at n i h)

  pub any_end : n ≤ i → any p (rest at n i) ≡ false
  any_end h = ap (any p) (rest_end at n i h)

  module _ (h : i < n) where
    pub every_on : p (at i) ≡ true → every p (rest at n i) ≡ every p (rest at n (i + 1))
    every_on e = ap (every p) (rest_turn at n i h) ∙ ap (λ (t : Bool). t && every p (rest at n (i + 1))) e

    pub every_fails : p (at i) ≡ false → every p (rest at n i) ≡ false
    every_fails e = ap (every p) (rest_turn at n i h) ∙ ap (λ (t : Bool). t && every p (rest at n (i + 1))) e

    pub any_on : p (at i) ≡ false → any p (rest at n i) ≡ any p (rest at n (i + 1))
    any_on e = ap (any p) (rest_turn at n i h) ∙ ap (λ (t : Bool). t || any p (rest at n (i + 1))) e

    pub any_found : p (at i) ≡ true → any p (rest at n i) ≡ true
    any_found e = ap (any p) (rest_turn at n i h) ∙ ap (λ (t : Bool). t || any p (rest at n (i + 1))) e

module _ (at : ℕ → ℕ) (n i : ℕ) where
  -- ---- a run of equal numbers
  pub equals_end : (x : ℕ) → n ≤ i → equals x (rest at n i) ≡ 0
  unfolding equals
  equals_end x h = ap (equals x) (rest_end at n i h)

  module _ (x : ℕ) (h : i < n) where
    pub equals_on : at i ≡ x → equals x (rest at n i) ≡ suc (equals x (rest at n (i + 1)))
    unfolding equals
    equals_on e = ap (equals x) (rest_turn at n i h) ∙ ap (λ (t : Bool). cond t (suc (equals x (rest at n (i + 1)))) 0) (eq-eqb x (at i) (sym e))

    pub equals_stops : (at i ≡ x → ⊥) → equals x (rest at n i) ≡ 0
    unfolding equals
    equals_stops e = ap (equals x) (rest_turn at n i h) ∙ ap (λ (t : Bool). cond t (suc (equals x (rest at n (i + 1)))) 0) (ne_eqb x (at i) (λ q. e (sym q)))

-- ---- numbers that ascend, from the one before index i on
module _ (at : ℕ → ℕ) (n : ℕ) where
  pub ascends_end : (i : ℕ) → n ≤ i → ascends (rest at n (i - 1)) ≡ true
  unfolding ascends list_from
  ascends_end i h = go (n - (i - 1)) (omega arith)
    where
      go : (k : ℕ) → k ≤ 1 → ascends (list_from at (i - 1) k) ≡ true
      go zero l = refl
      go (suc zero) l = refl
      go (suc (suc k)) l = absurd (omega arith)

  two : (j k : ℕ) → ascends (list_from at j (suc (suc k))) ≡ (ltb (at j) (at (suc j)) && ascends (list_from at (suc j) (suc k)))
  unfolding ascends list_from
  two j k = refl

  ascends_turn : (i : ℕ) → 1 ≤ i → i < n → ascends (rest at n (i - 1)) ≡ (ltb (at (i - 1)) (at i) && ascends (rest at n (i + 1 - 1)))
  ascends_turn zero g h = absurd (omega arith)
  ascends_turn (suc j) g h = rw (before, here, left, right) (two j (n - suc (suc j)))
    where
      before : suc j - 1 ≡ j
      before = omega arith

      here : suc j + 1 - 1 ≡ suc j
      here = omega arith

      left : n - j ≡ suc (suc (n - suc (suc j)))
      left = omega arith

      right : n - suc j ≡ suc (n - suc (suc j))
      right = omega arith

  module _ (i : ℕ) (g : 1 ≤ i) (h : i < n) where
    pub ascends_on : at (i - 1) < at i → ascends (rest at n (i - 1)) ≡ ascends (rest at n (i + 1 - 1))
    ascends_on e = ascends_turn i g h ∙ ap (λ (t : Bool). t && ascends (rest at n (i + 1 - 1))) (lt-ltb (at (i - 1)) (at i) e)

    pub ascends_fails : at i ≤ at (i - 1) → ascends (rest at n (i - 1)) ≡ false
    ascends_fails e = ascends_turn i g h ∙ ap (λ (t : Bool). t && ascends (rest at n (i + 1 - 1))) (le-ltb (at (i - 1)) (at i) e)
