-- The keys of residues ascend, so that the places of their chains do not fall: where a polymer residue of its chain comes before a residue, the last
-- polymer residue before it is of that chain; and where one comes after it, the first one after it is.
use mathlib.Core.Path.{◌≡◌, refl, sym, ap, ◌∙◌}
use mathlib.Core.Bool.{Bool, true, false, not, cond, ◌&&◌, ◌||◌, and-true, and-false, or-true}
use mathlib.Core.List.{List, [], ◌∷◌, ◌++◌, map}
use Prim.Native.Nat.{ℕ, suc, ◌≤◌, ◌<◌}
use native.Mathlib.Omega.{arith}
use lib.Dec.{eqb, eqb-zero-suc, ltb}
use borrow.Author.Tests.{lt-ltb, le-ltb, eqb-true, eqb-false, eq-eqb, ne_eqb}
use Rattle.names.specs.Places.{ascends}
use Rattle.model.specs.Keys.{chain_part}
use Rattle.model.specs.Lists.{any, All}
use Rattle.model.specs.Records.{ResidueRecord}
use Rattle.model.specs.Termini.{is_polymer, besides, is_first, is_last}
use Rattle.model.specs.Neighbours.{met_in, ends_chain}
use Rattle.model.proofs.AscendingLaws.{ascends_all, ascends_before, ascends_from}
use Rattle.model.proofs.ListLaws.{any_none, any_append, all_map, all_of, all_at, mem_middle}

-- ---- the places of chains
rises : (a b : ℕ) → a < b → chain_part a ≤ chain_part b
rises a b h = omega arith

-- ---- before and after a residue
module _ (r : ResidueRecord) where
  abbrev place : ℕ
  place = chain_part r.key

  abbrev earlier : ResidueRecord → Bool
  earlier t = besides r t && ltb t.key r.key

  abbrev later : ResidueRecord → Bool
  later t = besides r t && ltb r.key t.key

  not_earlier : (t : ResidueRecord) → r.key ≤ t.key → earlier t ≡ false
  not_earlier t h = ap (λ (b : Bool). besides r t && b) (le-ltb t.key r.key h) ∙ and-false (besides r t)

  not_later : (t : ResidueRecord) → t.key ≤ r.key → later t ≡ false
  not_later t h = ap (λ (b : Bool). besides r t && b) (le-ltb r.key t.key h) ∙ and-false (besides r t)

  met_from : (met : ℕ) (before after : List ResidueRecord) → ascends (map (λ t. t.key) (before ++ r ∷ after)) ≡ true
      → All (λ t. met ≤ suc (chain_part t.key)) (before ++ r ∷ after) → (any earlier before || eqb met (suc place)) ≡ eqb (met_in met before) (suc place)
  unfolding met_in
  met_from met [] after a h = refl
  met_from met (t ∷ before) after a h = go (is_polymer t.code) (λ n w. met_from n before after rest.1 w)
    where
      rest : All (λ u. t.key < u.key) (before ++ r ∷ after) × (ascends (map (λ u. u.key) (before ++ r ∷ after)) ≡ true)
      rest = ascends_all (λ u. u.key) t (before ++ r ∷ after) a

      below : t.key < r.key
      below = all_at (λ u. t.key < u.key) (before ++ r ∷ after) r rest.0 (mem_middle before r after)

      -- a place that is passed stays passed
      same : (b : Bool) → eqb (chain_part t.key) place ≡ b → ((b || any earlier before) || eqb met (suc place)) ≡ (any earlier before || eqb (suc (chain_part t.key)) (suc place))
      same true e = rw (eq-eqb (suc (chain_part t.key)) (suc place) (ap suc (eqb-true _ _ e)), or-true (any earlier before))
      same false e =
          let n : chain_part t.key ≡ place → ⊥ = eqb-false _ _ e in
          rw (ne_eqb (suc (chain_part t.key)) (suc place) (λ d. n (omega arith)), ne_eqb met (suc place) (λ d. n (omega (arith, h.0, rises t.key r.key below))))

      go : (b : Bool) → ((n : ℕ) → All (λ u. n ≤ suc (chain_part u.key)) (before ++ r ∷ after) → (any earlier before || eqb n (suc place)) ≡ eqb (met_in n before) (suc place))
          → (((b && eqb (chain_part t.key) place && ltb t.key r.key) || any earlier before) || eqb met (suc place))
          ≡ eqb (met_in (cond b (suc (chain_part t.key)) met) before) (suc place)
      go true f =
          rw (lt-ltb t.key r.key below, and-true (eqb (chain_part t.key) place))
          (same (eqb (chain_part t.key) place) refl
          ∙ f (suc (chain_part t.key))
          (all_map (λ u. t.key < u.key) (λ u. suc (chain_part t.key) ≤ suc (chain_part u.key)) (λ u g. omega (arith, rises t.key u.key g)) (before ++ r ∷ after) rest.0))
      go false f = f met h.1

  ends_from : (after : List ResidueRecord) → ascends (map (λ t. t.key) after) ≡ true → All (λ t. r.key < t.key) after
      → not (any later after) ≡ ends_chain place (map (λ t. (t.key, t.code)) after)
  unfolding ends_chain
  ends_from [] a h = refl
  ends_from (t ∷ after) a h = go (is_polymer t.code) (ends_from after rest.1 h.1)
    where
      rest : All (λ u. t.key < u.key) after × (ascends (map (λ u. u.key) after) ≡ true)
      rest = ascends_all (λ u. u.key) t after a

      -- behind another chain there is none of the chain of r
      another : (b : Bool) → eqb (chain_part t.key) place ≡ b → not (b || any later after) ≡ not b
      another true e = refl
      another false e = ap not (any_none later after (all_map (λ u. t.key < u.key) (λ u. later u ≡ false) (λ u g. none u g) after rest.0))
        where
          none : (u : ResidueRecord) → t.key < u.key → later u ≡ false
          none u g =
              let n : chain_part t.key ≡ place → ⊥ = eqb-false _ _ e in
              rw (ne_eqb (chain_part u.key) place (λ d. n (omega (arith, rises t.key u.key g, rises r.key t.key h.0))), and-false (is_polymer u.code))

      go : (b : Bool) → not (any later after) ≡ ends_chain place (map (λ u. (u.key, u.code)) after)
          → not ((b && eqb (chain_part t.key) place && ltb r.key t.key) || any later after)
          ≡ cond b (not (eqb (chain_part t.key) place)) (ends_chain place (map (λ u. (u.key, u.code)) after))
      go true e = rw (lt-ltb r.key t.key h.0, and-true (eqb (chain_part t.key) place)) (another (eqb (chain_part t.key) place) refl)
      go false e = e

-- ---- the theorems
module _ (before : List ResidueRecord) (r : ResidueRecord) (after : List ResidueRecord) (a : ascends (map (λ t. t.key) (before ++ r ∷ after)) ≡ true) where
  from : All (λ t. r.key < t.key) after × (ascends (map (λ t. t.key) after) ≡ true)
  from = ascends_all (λ t. t.key) r after (ascends_from (λ t. t.key) before (r ∷ after) a)

  none_earlier : any (earlier r) (r ∷ after) ≡ false
  none_earlier =
      any_none (earlier r) (r ∷ after)
      (not_earlier r r (omega arith), all_map (λ t. r.key < t.key) (λ t. earlier r t ≡ false) (λ t h. not_earlier r t (omega arith)) after from.0)

  none_later : any (later r) before ≡ false
  none_later =
      any_none (later r) before
      (all_map (λ t. t.key < r.key) (λ t. later r t ≡ false) (λ t h. not_later r t (omega arith)) before (ascends_before (λ t. t.key) before r after a))

  pub first_is : is_first (before ++ r ∷ after) r ≡ not (eqb (met_in 0 before) (suc (chain_part r.key)))
  unfolding is_first
  first_is =
      ap not
      (any_append (earlier r) before (r ∷ after)
      ∙ ap (λ (b : Bool). any (earlier r) before || b) (none_earlier ∙ sym (eqb-zero-suc (place r)))
      ∙ met_from r 0 before after a (all_of (λ t. 0 ≤ suc (chain_part t.key)) (before ++ r ∷ after) (λ t m. omega arith)))

  pub last_is : is_last (before ++ r ∷ after) r ≡ ends_chain (chain_part r.key) (map (λ t. (t.key, t.code)) after)
  unfolding is_last
  last_is =
      ap not
      (any_append (later r) before (r ∷ after)
      ∙ ap (λ (b : Bool). b || any (later r) (r ∷ after)) none_later
      ∙ ap (λ (b : Bool). b || any (later r) after) (not_later r r (omega arith)))
      ∙ ends_from r after from.1 from.0
