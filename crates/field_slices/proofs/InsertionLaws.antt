-- What an insertion does, over any type of entry: one entry more, and behind a first part it goes between the two.
use mathlib.Core.Path.{◌≡◌, refl, ap}
use mathlib.Core.List.{List, [], ◌∷◌, ◌++◌}
use Prim.Native.Nat.{ℕ, zero, suc, ◌≤◌}
use native.Mathlib.Nat.{le_of_suc-le-suc, not-suc-le-zero}
use native.Mathlib.Omega.{arith}
use lib.ListN.{length}
use Rattle.field_slices.specs.Insertion.{ins}

module _ {A : Type 0} where
  pub length_ins : (i : ℕ) (v : A) (l : List A) → i ≤ length l → length (ins i v l) ≡ suc (length l)
  unfolding ins
  length_ins zero v l h = refl
  length_ins (suc i) v [] h = absurd (not-suc-le-zero h)
  length_ins (suc i) v (x ∷ l) h = ap suc (length_ins i v l (le_of_suc-le-suc h))

  pub ins_between : (i : ℕ) (v : A) (l m : List A) → length l ≡ i → ins i v (l ++ m) ≡ l ++ v ∷ m
  unfolding ins
  ins_between zero v [] m e = refl
  ins_between zero v (x ∷ l) m e = absurd (omega arith)
  ins_between (suc i) v [] m e = absurd (omega arith)
  ins_between (suc i) v (x ∷ l) m e = ap (λ (r : List A). x ∷ r) (ins_between i v l m (omega arith))
