-- What stands in a cell after a token was copied to it: the token, or of one that is longer its front.
use mathlib.Core.Path.{◌≡◌, refl, sym, ap, ◌∙◌}
use mathlib.Core.List.{List, [], ◌∷◌}
use Prim.Native.Nat.{ℕ, zero, suc, ◌-◌, ◌≤◌}
use native.Mathlib.Nat.{le_of_suc-le-suc, le_refl}
use native.Mathlib.Omega.{arith}
use lib.ListN.{length, take, drop, set}
use lib.Seq.{sets, length-sets, take_all, take-length}
use Rattle.tokens.proofs.TrimLaws.{front_is}

sets_behind : (vs l : List ℕ) (x i : ℕ) → sets (x ∷ l) (suc i) vs ≡ x ∷ sets l i vs
sets_behind [] l x i = refl
sets_behind (v ∷ vs) l x i = sets_behind vs (set l i v) x (suc i)

front_stored : (n : ℕ) (token cell : List ℕ) → n ≤ length token → n ≤ length cell → take n (sets cell 0 token) ≡ take n token
front_stored zero token cell h k = refl
front_stored (suc n) [] cell h k = absurd (omega arith)
front_stored (suc n) (b ∷ token) [] h k = absurd (omega arith)
front_stored (suc n) (b ∷ token) (x ∷ cell) h k =
    ap (take (suc n)) (sets_behind token cell b 0)
    ∙ ap (λ (l : List ℕ). b ∷ l) (front_stored n token cell (le_of_suc-le-suc h) (le_of_suc-le-suc k))

module _ (token cell : List ℕ) {after : List ℕ} (stored : after ≡ sets cell 0 token) where
  -- as a slice `&cell[0..n]` has it
  pub whole : {n : ℕ} → n ≡ length token → n ≤ length cell → take (n - 0) (drop 0 after) ≡ token
  whole {n} e h =
      front_is n after
      ∙ ap (take n) stored
      ∙ front_stored n token cell (omega (arith, e)) h
      ∙ ap (λ (m : ℕ). take m token) e
      ∙ take-length token

  pub filled : length cell ≤ length token → after ≡ take (length cell) token
  filled h =
      stored
      ∙ sym (take_all (length cell) (sets cell 0 token) (omega (arith, length-sets cell 0 token)))
      ∙ front_stored (length cell) token cell h (le_refl (length cell))
