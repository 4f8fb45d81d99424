-- How far main's gap is from the index: one of the two differences is 0.
use mathlib.Core.Path.{◌≡◌, refl, ap, ◌∙◌}
use mathlib.Core.Bool.{Bool, true, false, cond}
use Prim.Native.Nat.{ℕ, suc, ◌+◌, ◌-◌, ◌≤◌}
use native.Mathlib.Omega.{arith}
use lib.Dec.{ltb}
use borrow.Author.Tests.{ltb-true, ltb-false}
use Rattle.building.specs.Stores.{distance_to}
use Rattle.building.proofs.stores.is_far.Goals as goal

both_ways : (front at : ℕ) → (front - at) + (at - front) ≡ distance_to front at
unfolding distance_to
both_ways front at = go (ltb at front) (ltb-true at front) (ltb-false at front)
  where
    go : (t : Bool) → (t ≡ true → suc at ≤ front) → (t ≡ false → front ≤ at) → (front - at) + (at - front) ≡ cond t (front - at) (at - front)
    go true h k = let l = h refl in omega arith
    go false h k = let l = k refl in omega arith

pub returns : goal.returns
returns c = let a = c.args in ap (ltb a.store.credit) (c.abs_diff.ensures ∙ both_ways a.store.main.front a.at)
