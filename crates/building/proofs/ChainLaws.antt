-- The walk ends at the first chain that is the one sought; where no two are the same, any place at which it stands is that one.
use Prim.{Dec, yes, no}
use mathlib.Core.Path.{◌≡◌, refl, sym, ap, ◌∙◌}
use mathlib.Core.List.{List, [], ◌∷◌}
use mathlib.Core.Bool.{Bool, true, false, cond, ◌||◌, false≢true}
use Prim.Native.Nat.{ℕ, zero, suc, ◌+◌, ◌≤◌, ◌<◌}
use native.Mathlib.Nat.{le_of_suc-le-suc, not-suc-le-zero}
use native.Mathlib.Decide.{dec_lt}
use native.Mathlib.Omega.{arith}
use lib.Dec.{eqb}
use lib.ListN.{length, drop, get_or, length-drop}
use lib.Seq.{get_or-drop}
use borrow.Author.Tests.{eqb-true, eqb-false, eq-eqb, ne_eqb}
use Rattle.model.specs.Chains.{chain_place}
use Rattle.model.specs.Lists.{any}
use Rattle.building.specs.Slices.{Distinct, ChainFound}

module _ (c : ℕ) where
  -- ---- the walk, from index i on
  pub walk_there : (l : List ℕ) (i : ℕ) → i < length l → get_or l i 0 ≡ c → chain_place c (drop i l) ≡ 0
  unfolding chain_place
  walk_there [] i h e = absurd (not-suc-le-zero h)
  walk_there (d ∷ l) zero h e = rw (eq-eqb c d (sym e))
  walk_there (d ∷ l) (suc i) h e = walk_there l i (le_of_suc-le-suc h) e

  pub walk_on : (l : List ℕ) (i : ℕ) → i < length l → (get_or l i 0 ≡ c → ⊥) → chain_place c (drop i l) ≡ suc (chain_place c (drop (suc i) l))
  unfolding chain_place
  walk_on [] i h e = absurd (not-suc-le-zero h)
  walk_on (d ∷ l) zero h e = rw (ne_eqb c d (λ q. e (sym q)))
  walk_on (d ∷ l) (suc i) h e = walk_on l i (le_of_suc-le-suc h) e

  pub walk_end : (l : List ℕ) (i : ℕ) → length l ≤ i → chain_place c (drop i l) ≡ 0
  unfolding chain_place
  walk_end [] zero h = refl
  walk_end [] (suc i) h = refl
  walk_end (d ∷ l) zero h = absurd (not-suc-le-zero h)
  walk_end (d ∷ l) (suc i) h = walk_end l i (le_of_suc-le-suc h)

  -- ---- what its answer says
  inside : (l : List ℕ) → chain_place c l ≤ length l
  unfolding chain_place
  inside [] = omega arith
  inside (d ∷ l) = go (eqb c d) (inside l)
    where
      go : (b : Bool) → chain_place c l ≤ length l → cond b 0 (suc (chain_place c l)) ≤ suc (length l)
      go true h = omega arith
      go false h = omega arith

  there : (l : List ℕ) → chain_place c l < length l → get_or l (chain_place c l) 0 ≡ c
  unfolding chain_place
  there [] h = absurd (not-suc-le-zero h)
  there (d ∷ l) h = go (eqb c d) refl (there l) h
    where
      go : (b : Bool) → eqb c d ≡ b → (chain_place c l < length l → get_or l (chain_place c l) 0 ≡ c) → cond b 0 (suc (chain_place c l)) < suc (length l)
          → get_or (d ∷ l) (cond b 0 (suc (chain_place c l))) 0 ≡ c
      go true e r h = sym (eqb-true c d e)
      go false e r h = r (le_of_suc-le-suc h)

  pub walked : (l : List ℕ) (r : ℕ) → r ≡ chain_place c l → ChainFound l c r
  walked l r e = record {
    inside = rw e (inside l);
    there = rw e (there l);
    place = λ d. e;
  }

  -- ---- a chain that stands at index i
  apart : (d : ℕ) (l : List ℕ) (i : ℕ) → any (eqb d) l ≡ false → i < length l → eqb d (get_or l i 0) ≡ false
  apart d [] i a h = absurd (not-suc-le-zero h)
  apart d (x ∷ l) zero a h = go (eqb d x) (any (eqb d) l) a
    where
      go : (t u : Bool) → (t || u) ≡ false → t ≡ false
      go true u e = e
      go false u e = refl
  apart d (x ∷ l) (suc i) a h = apart d l i (go (eqb d x) (any (eqb d) l) a) (le_of_suc-le-suc h)
    where
      go : (t u : Bool) → (t || u) ≡ false → u ≡ false
      go true u e = absurd (false≢true (sym e))
      go false u e = e

  only : (l : List ℕ) (i : ℕ) → Distinct l → i < length l → get_or l i 0 ≡ c → i ≡ chain_place c l
  unfolding chain_place
  only [] i s h e = absurd (not-suc-le-zero h)
  only (d ∷ l) zero s h e = rw (eq-eqb c d (sym e))
  only (d ∷ l) (suc i) s h e =
      let n : eqb c d ≡ false = ne_eqb c d (λ q. eqb-false d (get_or l i 0) (apart d l i s.0 (le_of_suc-le-suc h)) (sym q ∙ sym e)) in
      rw n (ap suc (only l i s.1 (le_of_suc-le-suc h) e))

  pub stands : (l : List ℕ) (i : ℕ) → i < length l → get_or l i 0 ≡ c → ChainFound l c i
  stands l i h e = record {
    inside = omega arith;
    there = λ k. e;
    place = λ s. only l i s h e;
  }

  -- a walk from index i on that ends at a chain, and not behind all of them
  pub walked_from : (l : List ℕ) (i r : ℕ) → r ≡ i + chain_place c (drop i l) → r < length l → ChainFound l c r
  walked_from l i r e h = stands l r h (ap (λ (k : ℕ). get_or l k 0) e ∙ sym (get_or-drop i l (chain_place c (drop i l)) 0) ∙ there (drop i l) (omega (arith, e, h, length-drop i l)))

  -- a chain that stands at no index
  pub stands_nowhere : (l : List ℕ) → ((i : ℕ) → i < length l → get_or l i 0 ≡ c → ⊥) → ChainFound l c (length l)
  stands_nowhere l none = record {
    inside = omega arith;
    there = λ h. absurd (omega (arith, h));
    place = λ _. go (dec_lt (chain_place c l) (length l));
  }
    where
      go : Dec (chain_place c l < length l) → length l ≡ chain_place c l
      go (yes h) = absurd (none (chain_place c l) h (there l h))
      go (no h) = omega (arith, h, inside l)
