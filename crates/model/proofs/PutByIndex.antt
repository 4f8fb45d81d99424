-- A put, as records are kept: where all entries before an index have lesser keys, the value goes in before that index, or takes the place of what
-- stands there under the same key.
use mathlib.Core.Path.{◌≡◌, refl, ap, ◌∙◌}
use mathlib.Core.List.{[], ◌∷◌}
use mathlib.Core.Option.{Option, none, some}
use Prim.Native.Nat.{ℕ, zero, suc, ◌<◌, ◌≤◌}
use native.Mathlib.Nat.{not-suc-le-zero, le_of_suc-le-suc}
use native.Mathlib.Omega.{arith}
use lib.ListN.{length, get_or, set}
use Rattle.field_slices.specs.Insertion.{ins}
use Rattle.model.specs.Map.{Entry, Map, find, made, put}
use Rattle.model.proofs.MapLaws.{choose_less, choose_same, choose_more}

-- entries are read with a default d past the end
module _ {W : Type 0} (d : Entry W) (k : ℕ) (f : Option W → W) where
  abbrev LessBefore : Map W → ℕ → Type 0
  LessBefore m i = (j : ℕ) → j < i → (get_or m j d).key < k

  pub put_new : (m : Map W) (i : ℕ) → LessBefore m i → i ≤ length m → (i < length m → k < (get_or m i d).key)
      → (find k m ≡ none) × (put k f m ≡ ins i (made k f none) m)
  unfolding find put ins
  put_new [] zero b h w = (refl, refl)
  put_new [] (suc i) b h w = absurd (not-suc-le-zero h)
  put_new (e ∷ m) zero b h w = let q : k < e.key = w (omega arith) in (choose_less k e.key _ _ _ q, choose_less k e.key _ _ _ q)
  put_new (e ∷ m) (suc i) b h w =
      let q : e.key < k = b 0 (omega arith) in
      let r = put_new m i (λ j v. b (suc j) (omega arith)) (le_of_suc-le-suc h) (λ v. w (omega arith)) in
      (choose_more k e.key _ _ _ q ∙ r.0, choose_more k e.key _ _ _ q ∙ ap (λ (n : Map W). e ∷ n) r.1)

  pub put_again : (m : Map W) (i : ℕ) → LessBefore m i → i < length m → k ≡ (get_or m i d).key
      → (find k m ≡ some (get_or m i d).value) × (put k f m ≡ set m i (made k f (some (get_or m i d).value)))
  unfolding find put
  put_again [] i b h w = absurd (not-suc-le-zero h)
  put_again (e ∷ m) zero b h w = (choose_same k e.key _ _ _ w, choose_same k e.key _ _ _ w)
  put_again (e ∷ m) (suc i) b h w =
      let q : e.key < k = b 0 (omega arith) in
      let r = put_again m i (λ j v. b (suc j) (omega arith)) (le_of_suc-le-suc h) w in
      (choose_more k e.key _ _ _ q ∙ r.0, choose_more k e.key _ _ _ q ∙ ap (λ (n : Map W). e ∷ n) r.1)
