-- A chain that is there is stored over itself, and a new one behind all others: that is the model's list with the chain.
use Prim.{tt}
use mathlib.Core.Path.{◌≡◌, refl, sym, ap, ◌∙◌, subst}
use mathlib.Core.Bool.{Bool, true, false, cond, not, ◌||◌}
use mathlib.Core.List.{List, [], ◌∷◌, ◌++◌}
use Prim.Native.Nat.{ℕ, suc, ◌≤◌, ◌<◌}
use native.Mathlib.Omega.{arith}
use lib.Dec.{eqb, leb}
use lib.ListN.{length, take, get_or, set, length-append}
use lib.Seq.{get_or-take, set-get_or, take-suc-set}
use borrow.Author.Tests.{leb-true, leb-false, eq-eqb, ne_eqb, eqb-false, not-true, not-false}
use Rattle.ascii.proofs.TestLaws.{neither_of}
use Rattle.model.specs.Chains.{chain_place, with_chain}
use Rattle.model.specs.Lists.{any}
use Rattle.model.proofs.ChainsFirstMet.{is_met, with_chain_lem, place_past}
use Rattle.building.specs.Holds.{HoldsChains}
use Rattle.building.specs.Slices.{Distinct, ChainFound}

-- the chain stands where it would have gone
pub place_with : (c : ℕ) (l : List ℕ) → chain_place c (with_chain c l) ≡ chain_place c l
unfolding chain_place with_chain
place_with c [] = rw (eq-eqb c c refl)
place_with c (d ∷ l) = go (eqb c d) refl (place_with c l)
  where
    go : (b : Bool) → eqb c d ≡ b → chain_place c (with_chain c l) ≡ chain_place c l → chain_place c (cond b (d ∷ l) (d ∷ with_chain c l)) ≡ cond b 0 (suc (chain_place c l))
    go true e r = rw e
    go false e r = rw e (ap suc r)

-- ---- a new one
any_behind : (d c : ℕ) (l : List ℕ) → any (eqb d) (l ++ (c ∷ [])) ≡ (any (eqb d) l || eqb d c)
any_behind d c [] = go (eqb d c)
  where
    go : (b : Bool) → (b || false) ≡ b
    go true = refl
    go false = refl
any_behind d c (x ∷ l) = go (eqb d x) (any_behind d c l)
  where
    go : (b : Bool) → any (eqb d) (l ++ (c ∷ [])) ≡ (any (eqb d) l || eqb d c) → (b || any (eqb d) (l ++ (c ∷ []))) ≡ ((b || any (eqb d) l) || eqb d c)
    go true e = refl
    go false e = e

distinct_behind : (c : ℕ) (l : List ℕ) → Distinct l → any (eqb c) l ≡ false → Distinct (l ++ (c ∷ []))
distinct_behind c [] s a = (refl, tt)
distinct_behind c (d ∷ l) s a =
    let q = neither_of (eqb c d) (any (eqb c) l) a in
    let e : eqb d c ≡ false = ne_eqb d c (λ w. eqb-false c d q.0 (sym w)) in
    (any_behind d c l ∙ ap (λ (b : Bool). b || eqb d c) s.0 ∙ e, distinct_behind c l s.1 q.1)

module _ (chains : List ℕ) (n : ℕ) (l : List ℕ) (c p : ℕ) (h : HoldsChains chains n l) (f : ChainFound (take n chains) c p) where
  pub chain_is : p ≡ chain_place c l
  chain_is = f.place (subst Distinct (sym h.names_held) h.distinct) ∙ ap (chain_place c) h.names_held

  pub chain_within : p ≤ n
  chain_within = omega (arith, f.inside, ap length h.names_held, h.many)

  met : leb n p ≡ not (is_met l c)
  met = ap (λ (x : ℕ). leb x p) h.many ∙ ap (leb (length l)) chain_is ∙ place_past c l

  pub chain_put : (leb n p ≡ true → n < length chains) → HoldsChains (set chains p c) (cond (leb n p) (suc n) n) (with_chain c l)
  chain_put room = go (leb n p) refl
    where
      go : (b : Bool) → leb n p ≡ b → HoldsChains (set chains p c) (cond b (suc n) n) (with_chain c l)
      go true e =
          let new : is_met l c ≡ false = not-true (is_met l c) (sym met ∙ e) in
          let with : with_chain c l ≡ l ++ (c ∷ []) = with_chain_lem c l ∙ ap (λ (b : Bool). cond b l (l ++ (c ∷ []))) new in
          let at : p ≡ n = omega (arith, chain_within, leb-true n p e) in
          subst (HoldsChains (set chains p c) (suc n)) (sym with)
          (record {
            many = omega (arith, length-append l (c ∷ []), h.many);
            distinct = distinct_behind c l h.distinct new;
            names_held = ap (λ (x : ℕ). take (suc n) (set chains x c)) at ∙ take-suc-set chains n c (room e) ∙ ap (λ (x : List ℕ). x ++ (c ∷ [])) h.names_held;
          })
      go false e =
          let there : is_met l c ≡ true = not-false (is_met l c) (sym met ∙ e) in
          let with : with_chain c l ≡ l = with_chain_lem c l ∙ ap (λ (b : Bool). cond b l (l ++ (c ∷ []))) there in
          let low : p < n = leb-false n p e in
          let at : get_or chains p 0 ≡ c = sym (get_or-take n chains p 0 low) ∙ f.there (omega (arith, ap length h.names_held, h.many)) in
          let same : set chains p c ≡ chains = ap (set chains p) (sym at) ∙ set-get_or chains p 0 in
          subst (λ (x : List ℕ). HoldsChains x n (with_chain c l)) (sym same) (subst (HoldsChains chains n) (sym with) h)
