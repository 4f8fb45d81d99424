-- A map from numbers to values, as a list that ascends: what stands at a number, and what is put there.
use Prim.{Unit}
use Rattle.std.specs.Prelude.{Bool, true, false, List, [], ◌∷◌}
use Rattle.std.proofs.Math.Option.{Option, none, some}
use Prim.Native.Nat.{ℕ, suc, ◌≤◌, compare, Ordering}

pub record Entry (W : Type 0) : Type 0 where
  pub key : ℕ
  pub value : W

abbrev pub Map : Type 0 → Type 0
Map W = List (Entry W)

-- by how two numbers compare
abbrev pub choose : {A : Type 0} → Ordering → A → A → A → A
choose Ordering.lt x y z = x
choose Ordering.eq x y z = y
choose Ordering.gt x y z = z

module _ {W : Type 0} where
  -- the value at k
  unfoldable pub find : ℕ → Map W → Option W
  find k [] = none
  find k (e ∷ m) = choose (compare k e.key) none (some e.value) (find k m)

  abbrev pub is_none : Option W → Bool
  is_none none = true
  is_none (some w) = false

  -- the value at k is made from the one that was there, if any
  abbrev pub made : ℕ → (Option W → W) → Option W → Entry W
  made k f o = record { key = k; value = f o }

  unfoldable pub put : ℕ → (Option W → W) → Map W → Map W
  put k f [] = made k f none ∷ []
  put k f (e ∷ m) = choose (compare k e.key) (made k f none ∷ e ∷ m) (made k f (some e.value) ∷ m) (e ∷ put k f m)

  -- the keys ascend, with no two the same, from b on
  abbrev pub AscendingFrom : ℕ → Map W → Type 0
  AscendingFrom b [] = Unit {0}
  AscendingFrom b (e ∷ m) = (b ≤ e.key) × AscendingFrom (suc e.key) m

  abbrev pub Ascending : Map W → Type 0
  Ascending m = AscendingFrom 0 m
