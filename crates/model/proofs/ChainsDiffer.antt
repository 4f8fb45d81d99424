-- The chains of some rows differ, since a chain that is met again is left out; each is the chain of some row, and so each place has its chain.
use mathlib.Core.Path.{◌≡◌, refl, sym, ap, ◌∙◌}
use mathlib.Core.Bool.{Bool, true, false, cond, not, ◌||◌, false≢true}
use mathlib.Core.Logic.{◌⊎◌, inl, inr}
use mathlib.Core.List.Memᴰ
use mathlib.Core.List.{List, [], ◌∷◌, Memᴰ}
use Prim.Native.Nat.{ℕ, zero, suc, ◌<◌}
use native.Mathlib.Omega.{arith}
use lib.Dec.{eqb}
use lib.ListN.{length}
use borrow.Author.Tests.{eq-eqb, ne_eqb, leb-false, not-true}
use Rattle.rows.specs.declared.rules.Site.{Site}
use Rattle.model.specs.Chains.{chain_place}
use Rattle.model.specs.Lists.{filter, any}
use Rattle.model.specs.Rules.{first_met}
use Rattle.model.specs.WellFormed.{differ}
use Rattle.model.proofs.ChainsFirstMet.{Met, place_past}
use Rattle.model.proofs.ListLaws.{both, left_of, right_of, any_at, any_none, all_of, filter_mem}

-- ---- no two are the same
none_left : (p q : ℕ → Bool) (l : List ℕ) → any p l ≡ false → any p (filter q l) ≡ false
none_left p q [] e = refl
none_left p q (x ∷ l) e = go (p x) refl (q x) e (none_left p q l)
  where
    go : (t : Bool) → p x ≡ t → (u : Bool) → (t || any p l) ≡ false → (any p l ≡ false → any p (filter q l) ≡ false) → any p (cond u (x ∷ filter q l) (filter q l)) ≡ false
    go true h u e r = absurd (false≢true (sym e))
    go false h true e r = ap (λ (b : Bool). b || any p (filter q l)) h ∙ r e
    go false h false e r = r e

differ_left : (q : ℕ → Bool) (l : List ℕ) → differ l ≡ true → differ (filter q l) ≡ true
unfolding differ
differ_left q [] e = refl
differ_left q (x ∷ l) e = go (q x) (differ_left q l (right_of (not (any (eqb x) l)) (differ l) e))
  where
    go : (u : Bool) → differ (filter q l) ≡ true → differ (cond u (x ∷ filter q l) (filter q l)) ≡ true
    go true r = both _ _ (ap not (none_left (eqb x) q l (not-true (any (eqb x) l) (left_of (not (any (eqb x) l)) (differ l) e)))) r
    go false r = r

pub chains_differ : (l : List Site) → differ (first_met l) ≡ true
unfolding differ first_met
chains_differ [] = refl
chains_differ (s ∷ l) =
    let others = filter (λ c. not (eqb c s.chain)) (first_met l) in
    both _ _ (ap not (any_none (eqb s.chain) others (all_of (λ c. eqb s.chain c ≡ false) others other))) (differ_left (λ c. not (eqb c s.chain)) (first_met l) (chains_differ l))
  where
    other : (c : ℕ) → Memᴰ c (filter (λ c. not (eqb c s.chain)) (first_met l)) → eqb s.chain c ≡ false
    other c d =
        let n = not-true (eqb c s.chain) (filter_mem (λ c. not (eqb c s.chain)) (first_met l) c d).1 in
        ne_eqb s.chain c (λ q. false≢true (sym n ∙ eq-eqb c s.chain (sym q)))

-- ---- each is the chain of some row
pub chain_of_row : (l : List Site) (c : ℕ) → Memᴰ c (first_met l) → (s : Site) × Memᴰ s l × (c ≡ s.chain)
unfolding first_met
chain_of_row [] c d = absurd (Memᴰ.not-nil d)
chain_of_row (s ∷ l) c d = go (λ m. chain_of_row l c (filter_mem (λ c. not (eqb c s.chain)) (first_met l) c m).0) (Memᴰ.cases_cons d)
  where
    go : (Memᴰ c (filter (λ c. not (eqb c s.chain)) (first_met l)) → (t : Site) × Memᴰ t l × (c ≡ t.chain))
        → (c ≡ s.chain) ⊎ Memᴰ c (filter (λ c. not (eqb c s.chain)) (first_met l)) → (t : Site) × Memᴰ t (s ∷ l) × (c ≡ t.chain)
    go r (inl e) = (s, Memᴰ.head refl, e)
    go r (inr m) = let t = r m in (t.0, Memᴰ.tail t.1, t.2)

-- ---- places
pub place_within : (c : ℕ) (l : List ℕ) → Met l c → chain_place c l < length l
place_within c l m = leb-false (length l) (chain_place c l) (place_past c l ∙ ap not m)

pub chain_at : (l : List ℕ) → differ l ≡ true → (i : ℕ) → i < length l → (c : ℕ) × Memᴰ c l × (chain_place c l ≡ i)
unfolding differ chain_place
chain_at [] e i h = absurd (omega arith)
chain_at (d ∷ l) e zero h = (d, Memᴰ.head refl, rw (eq-eqb d d refl))
chain_at (d ∷ l) e (suc i) h =
    let r = chain_at l (right_of (not (any (eqb d) l)) (differ l) e) i (omega arith) in
    let none = not-true (any (eqb d) l) (left_of (not (any (eqb d) l)) (differ l) e) in (
      r.0,
      Memᴰ.tail r.1,
      ap (λ (b : Bool). cond b 0 (suc (chain_place r.0 l))) (ne_eqb r.0 d (λ q. false≢true (sym none ∙ any_at (eqb d) l r.0 r.1 (eq-eqb d r.0 (sym q)))))
          ∙ ap suc r.2,
    )
