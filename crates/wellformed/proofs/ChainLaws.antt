-- Names differ where the first is not among the others, and these differ.
use mathlib.Core.Path.{◌≡◌, refl, sym, ap, ◌∙◌}
use mathlib.Core.Bool.{Bool, true, false, not, ◌&&◌, ◌||◌}
use mathlib.Core.List.{List, [], ◌∷◌}
use Prim.Native.Nat.{ℕ, ◌+◌, ◌-◌, ◌≤◌, ◌<◌}
use native.Mathlib.Numerals.{add-one}
use native.Mathlib.Omega.{arith}
use lib.Dec.{eqb}
use lib.ListN.{length, get_or, take, drop, drop_of_length-le}
use lib.Seq.{drop-cons, take_all}
use Rattle.std.proofs.Common.{length-drop}
use borrow.Author.Tests.{eqb-true, eq-eqb}
use Rattle.std.specs.List.{list_any, list_all}
use Rattle.ascii.specs.Lists.{every}
use Rattle.model.specs.Lists.{any}
use Rattle.model.specs.WellFormed.{differ}
use Rattle.model.proofs.ListLaws.{same_test}

-- ---- std's words
pub all_every : (p : ℕ → Bool) (l : List ℕ) → list_all p l ≡ every p l
all_every p [] = refl
all_every p (x ∷ l) = ap (λ (t : Bool). p x && t) (all_every p l)

same_either_way : (x y : ℕ) → eqb x y ≡ eqb y x
same_either_way x y = same_test (eqb x y) (eqb y x) (λ e. eq-eqb y x (sym (eqb-true x y e))) (λ e. eq-eqb x y (sym (eqb-true y x e)))

among : (x : ℕ) (l : List ℕ) → list_any (λ y. eqb y x) l ≡ any (eqb x) l
among x [] = refl
among x (y ∷ l) = λ i. same_either_way y x i || among x l i

-- in the part of a slice from an index on
pub contained : (x : ℕ) (l : List ℕ) (k : ℕ) → list_any (λ y. eqb y x) (take (length l - k) (drop k l)) ≡ any (eqb x) (drop k l)
contained x l k = ap (list_any (λ y. eqb y x)) (take_all (length l - k) (drop k l) (omega (arith, length-drop k l))) ∙ among x (drop k l)

-- ---- from an index on
module _ (l : List ℕ) (i : ℕ) where
  abbrev again : Bool
  again = any (eqb (get_or l i 0)) (drop (i + 1) l)

  turn : i < length l → differ (drop i l) ≡ (not again && differ (drop (i + 1) l))
  unfolding differ
  turn h = rw (add-one i) (ap differ (drop-cons l i 0 h))

  pub differ_on : i < length l → again ≡ false → differ (drop i l) ≡ differ (drop (i + 1) l)
  differ_on h e = turn h ∙ ap (λ (t : Bool). not t && differ (drop (i + 1) l)) e

  pub differ_fails : i < length l → again ≡ true → differ (drop i l) ≡ false
  differ_fails h e = turn h ∙ ap (λ (t : Bool). not t && differ (drop (i + 1) l)) e

  pub differ_end : length l ≤ i → differ (drop i l) ≡ true
  unfolding differ
  differ_end h = ap differ (drop_of_length-le l {i = i} h)
