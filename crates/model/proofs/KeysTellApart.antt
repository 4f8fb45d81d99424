-- A residue's key gives back its chain, sequence and insertion code, and an atom's place its residue's key and its name, since each of the lower numbers
-- is below the step of the number above it. So two sites have one key exactly where they are of one residue, and one place where they are of one atom.
use mathlib.Core.Path.{◌≡◌, refl, sym, ◌∙◌}
use mathlib.Core.Bool.{Bool, true, false, cond, ◌&&◌, ◌||◌, false≢true}
use mathlib.Core.List.{List, [], ◌∷◌}
use Prim.Native.Nat.{ℕ, suc, ◌^◌, ◌<◌}
use native.Mathlib.Omega.{arith}
use lib.Dec.{eqb}
use borrow.Author.Tests.{eqb-true, eq-eqb}
use Rattle.rows.specs.declared.rules.Site.{Site}
use Rattle.model.specs.Chains.{chain_place}
use Rattle.model.specs.Keys.{residue_key, atom_place, residue_at, atom_at}
use Rattle.model.specs.Lists.{All}
use Rattle.model.specs.Proper.{Proper}
use Rattle.model.specs.Rules.{same_residue, same_atom}
use Rattle.model.proofs.ChainsFirstMet.{Met, is_met, met_after, all_met}
use Rattle.model.proofs.ListLaws.{both, left_of, right_of, same_test, all_map, all_both}

-- ---- the tests, as facts
pub record OneResidue (s t : Site) : Type 0 where
  pub chain : t.chain ≡ s.chain
  pub sequence : t.sequence ≡ s.sequence
  pub code : t.insertion_code ≡ s.insertion_code

pub record OneAtom (s t : Site) : Type 0 where
  pub residue : OneResidue s t
  pub atom : t.atom ≡ s.atom

one_residue : (s t : Site) → same_residue s t ≡ true → OneResidue s t
one_residue s t e =
    let f = left_of _ (eqb t.insertion_code s.insertion_code) e in
    record {
      chain = eqb-true _ _ (left_of _ _ f);
      sequence = eqb-true _ _ (right_of (eqb t.chain s.chain) _ f);
      code = eqb-true _ _ (right_of (eqb t.chain s.chain && eqb t.sequence s.sequence) _ e);
    }

residue_one : (s t : Site) → OneResidue s t → same_residue s t ≡ true
residue_one s t o = both _ _ (both _ _ (eq-eqb t.chain s.chain o.chain) (eq-eqb t.sequence s.sequence o.sequence)) (eq-eqb t.insertion_code s.insertion_code o.code)

pub one_atom : (s t : Site) → same_atom s t ≡ true → OneAtom s t
one_atom s t e = record { residue = one_residue s t (left_of _ (eqb t.atom s.atom) e); atom = eqb-true _ _ (right_of (same_residue s t) _ e) }

atom_one : (s t : Site) → OneAtom s t → same_atom s t ≡ true
atom_one s t o = both _ _ (residue_one s t o.residue) (eq-eqb t.atom s.atom o.atom)

pub same_self : (s : Site) → same_atom s s ≡ true
same_self s = atom_one s s (record { residue = record { chain = refl; sequence = refl; code = refl }; atom = refl })

-- ---- the numbers
pub chain_by_place : (c d : ℕ) (l : List ℕ) → Met l c → chain_place c l ≡ chain_place d l → c ≡ d
unfolding chain_place
chain_by_place c d [] h e = absurd (false≢true h)
chain_by_place c d (x ∷ l) h e = go (eqb c x) refl (eqb d x) refl h e (chain_by_place c d l)
  where
    go : (t : Bool) → eqb c x ≡ t → (u : Bool) → eqb d x ≡ u → (t || is_met l c) ≡ true → cond t 0 (suc (chain_place c l)) ≡ cond u 0 (suc (chain_place d l))
        → (Met l c → chain_place c l ≡ chain_place d l → c ≡ d) → c ≡ d
    go true p true q w f r = eqb-true c x p ∙ sym (eqb-true d x q)
    go true p false q w f r = absurd (omega arith)
    go false p true q w f r = absurd (omega arith)
    go false p false q w f r = r w (omega arith)

split_key : (p q a b c d : ℕ) → a < 2 ^ 32 → b < 2 ^ 32 → c < 2 ^ 8 → d < 2 ^ 8 → residue_key p a c ≡ residue_key q b d → (p ≡ q) × (a ≡ b) × (c ≡ d)
split_key p q a b c d h i j k e = (omega arith, omega arith, omega arith)

pub split_place : (p q a b : ℕ) → a < 2 ^ 64 → b < 2 ^ 64 → atom_place p a ≡ atom_place q b → (p ≡ q) × (a ≡ b)
split_place p q a b h k e = (omega arith, omega arith)

pub key_by_residue : (l : List ℕ) (s t : Site) → OneResidue s t → residue_at l t ≡ residue_at l s
unfolding residue_at
key_by_residue l s t o = rw (o.chain, o.sequence, o.code)

pub place_by_atom : (l : List ℕ) (s t : Site) → OneAtom s t → atom_at l t ≡ atom_at l s
unfolding atom_at
place_by_atom l s t o = rw (key_by_residue l s t o.residue, o.atom)

-- ---- the theorems, of sites whose chains are met
pub record Placed (l : List ℕ) (s : Site) : Type 0 where
  pub met : Met l s.chain
  pub proper : Proper s

pub all_placed : (l : List Site) → All Proper l → All (Placed (met_after [] l)) l
all_placed l b =
    let c = met_after [] l in
    all_map (λ s. Met c s.chain × Proper s) (Placed c) (λ s p. record { met = p.0; proper = p.1 }) l (all_both (λ s. Met c s.chain) Proper l (all_met [] l) b)

module _ (l : List ℕ) (s t : Site) (v : Placed l s) (w : Placed l t) where
  residue_by_key : residue_at l t ≡ residue_at l s → OneResidue s t
  unfolding residue_at
  residue_by_key e =
      let q = split_key _ _ _ _ _ _ w.proper.sequence v.proper.sequence w.proper.code v.proper.code e in
      record { chain = chain_by_place t.chain s.chain l w.met q.0; sequence = q.1; code = q.2 }

  atom_by_place : atom_at l t ≡ atom_at l s → OneAtom s t
  unfolding atom_at
  atom_by_place e =
      let q = split_place _ _ _ _ w.proper.atom v.proper.atom e in
      record { residue = residue_by_key q.0; atom = q.1 }

  pub key_tells : eqb (residue_at l t) (residue_at l s) ≡ same_residue s t
  key_tells = same_test _ _ (λ e. residue_one s t (residue_by_key (eqb-true _ _ e))) (λ e. eq-eqb _ _ (key_by_residue l s t (one_residue s t e)))

  pub place_tells : eqb (atom_at l t) (atom_at l s) ≡ same_atom s t
  place_tells = same_test _ _ (λ e. atom_one s t (atom_by_place (eqb-true _ _ e))) (λ e. eq-eqb _ _ (place_by_atom l s t (one_atom s t e)))
