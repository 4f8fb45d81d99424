-- Where each number is less than the one after it, it is less than all after it; and the keys of a map ascend.
use Prim.{tt}
use mathlib.Core.Path.{◌≡◌, refl}
use mathlib.Core.Bool.{true}
use mathlib.Core.List.{List, [], ◌∷◌, ◌++◌, map}
use Prim.Native.Nat.{ℕ, suc, ◌<◌}
use native.Mathlib.Omega.{arith}
use lib.Dec.{ltb}
use borrow.Author.Tests.{ltb-true, lt-ltb}
use Rattle.names.specs.Places.{ascends}
use Rattle.model.specs.Lists.{All}
use Rattle.model.specs.Map.{Map, AscendingFrom, Ascending}
use Rattle.model.proofs.ListLaws.{left_of, right_of, all_map, all_at, mem_middle}

module _ {S : Type 0} (k : S → ℕ) where
  pub ascends_all : (s : S) (l : List S) → ascends (map k (s ∷ l)) ≡ true → All (λ t. k s < k t) l × (ascends (map k l) ≡ true)
  unfolding ascends
  ascends_all s [] a = (tt, refl)
  ascends_all s (t ∷ l) a =
      let h : k s < k t = ltb-true (k s) (k t) (left_of (ltb (k s) (k t)) (ascends (map k (t ∷ l))) a) in
      let b : ascends (map k (t ∷ l)) ≡ true = right_of (ltb (k s) (k t)) (ascends (map k (t ∷ l))) a in
      ((h, all_map (λ u. k t < k u) (λ u. k s < k u) (λ u g. omega arith) l (ascends_all t l b).0), b)

  -- on both sides of one of them
  pub ascends_before : (before : List S) (s : S) (after : List S) → ascends (map k (before ++ s ∷ after)) ≡ true → All (λ t. k t < k s) before
  ascends_before [] s after a = tt
  ascends_before (t ∷ before) s after a =
      let b = ascends_all t (before ++ s ∷ after) a in
      (all_at (λ u. k t < k u) (before ++ s ∷ after) s b.0 (mem_middle before s after), ascends_before before s after b.1)

  pub ascends_from : (before : List S) (after : List S) → ascends (map k (before ++ after)) ≡ true → ascends (map k after) ≡ true
  ascends_from [] after a = a
  ascends_from (t ∷ before) after a = ascends_from before after (ascends_all t (before ++ after) a).1

-- ---- a map
keys_from : {W : Type 0} (b : ℕ) (m : Map W) → AscendingFrom b m → ascends (map (λ e. e.key) m) ≡ true
unfolding ascends
keys_from b [] a = refl
keys_from b (e ∷ []) a = refl
keys_from b (e ∷ f ∷ m) a = rw (lt-ltb e.key f.key a.1.0) (keys_from (suc e.key) (f ∷ m) a.1)

pub map_ascends : {W : Type 0} (m : Map W) → Ascending m → ascends (map (λ e. e.key) m) ≡ true
map_ascends m a = keys_from 0 m a
