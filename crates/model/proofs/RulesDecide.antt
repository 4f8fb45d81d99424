-- The rules leave no choice: two states of which both say the rules of the same rows are equal. So a state is what the rows leave exactly where the rules say it.
use mathlib.Core.Path.{◌≡◌, sym, ap, ◌∙◌, subst}
use mathlib.Core.Bool.{true, false, false≢true}
use mathlib.Core.Logic.{◌⊎◌, inl, inr}
use mathlib.Core.List.{List, [], ◌∷◌, ◌++◌, Memᴰ, head-eq_of_cons-eq, tail-eq_of_cons-eq}
use mathlib.Core.Option.{some-injective}
use Prim.Native.Nat.{ℕ}
use lib.Ieee.{lt}
use Rattle.rows.specs.declared.rules.Site.{Site}
use Rattle.model.specs.Fold.{Residue, Atom, State, atom_of, model_of}
use Rattle.model.specs.Keys.{residue_at, atom_at}
use Rattle.model.specs.Lists.{All}
use Rattle.model.specs.Proper.{Proper}
use Rattle.model.specs.Rules.{same_residue, same_atom, Earliest, ResidueValue, AtomValue, Entries, Ruled}
use Rattle.model.specs.Taken.{Taken, sites}
use Rattle.model.proofs.EntriesOfRows.{one_map}
use Rattle.model.proofs.FoldKeepsRules.{fold_keeps_rules}
use Rattle.model.proofs.ListLaws.{all_at, mem_middle}

-- two places in one list: the same, or one before the other
two_cuts : {S : Type 0} (b : List S) (t : S) (a b' : List S) (t' : S) (a' : List S) → b ++ t ∷ a ≡ b' ++ t' ∷ a' → (t ≡ t') ⊎ (Memᴰ t b' ⊎ Memᴰ t' b)
two_cuts [] t a [] t' a' e = inl (head-eq_of_cons-eq e)
two_cuts [] t a (y ∷ b') t' a' e = inr (inl (mathlib.Core.List.Memᴰ.head (head-eq_of_cons-eq e)))
two_cuts (x ∷ b) t a [] t' a' e = inr (inr (mathlib.Core.List.Memᴰ.head (sym (head-eq_of_cons-eq e))))
two_cuts (x ∷ b) t a (y ∷ b') t' a' e = go (two_cuts b t a b' t' a' (tail-eq_of_cons-eq e))
  where
    go : (t ≡ t') ⊎ (Memᴰ t b' ⊎ Memᴰ t' b) → (t ≡ t') ⊎ (Memᴰ t (y ∷ b') ⊎ Memᴰ t' (x ∷ b))
    go (inl p) = inl p
    go (inr (inl m)) = inr (inl (mathlib.Core.List.Memᴰ.tail m))
    go (inr (inr m)) = inr (inr (mathlib.Core.List.Memᴰ.tail m))

-- of two earliest of greatest occupancy neither is before the other
not_before : (t u : Site) (l : List Site) → Earliest l t → (k : Earliest l u) → Memᴰ t k.before → ⊥
not_before t u l h k m =
    let u-in : Memᴰ u l = subst (Memᴰ u) (sym k.among) (mem_middle k.before u k.after) in
    false≢true (sym (all_at (λ s. lt t.occupancy s.occupancy ≡ false) l u h.greatest u-in) ∙ all_at (λ s. lt s.occupancy u.occupancy ≡ true) k.before t k.first m)

one_earliest : (t u : Site) (l : List Site) → Earliest l t → Earliest l u → t ≡ u
one_earliest t u l h k = go (two_cuts h.before t h.after k.before u k.after (sym h.among ∙ k.among))
  where
    go : (t ≡ u) ⊎ (Memᴰ t k.before ⊎ Memᴰ u h.before) → t ≡ u
    go (inl e) = e
    go (inr (inl m)) = absurd (not_before t u l h k m)
    go (inr (inr m)) = absurd (not_before u t l k h m)

one_residue_value : (l : List Site) (r s : Residue) → ResidueValue l r → ResidueValue l s → r ≡ s
one_residue_value l r s p q = some-injective r s (sym p ∙ q)

one_atom_value : (l : List Site) (a b : Atom) → AtomValue l a → AtomValue l b → a ≡ b
one_atom_value l a b p q = p.2 ∙ ap atom_of (one_earliest p.0 q.0 l p.1 q.1) ∙ sym q.2

-- ---- the theorems
pub rules_decide : (l : List Taken) (st su : State) → Ruled l st → Ruled l su → st ≡ su
rules_decide l st su a b =
    let c : su.chains ≡ st.chains = b.chains ∙ sym a.chains in
    let r = one_map (residue_at st.chains) same_residue ResidueValue one_residue_value (sites l) st.residues su.residues a.residues
    (subst (λ (d : List ℕ). Entries (residue_at d) same_residue ResidueValue (sites l) su.residues) c b.residues) in
    let t = one_map (atom_at st.chains) same_atom AtomValue one_atom_value (sites l) st.atoms su.atoms a.atoms
    (subst (λ (d : List ℕ). Entries (atom_at d) same_atom AtomValue (sites l) su.atoms) c b.atoms) in
    λ i. record {
      chains = sym c i;
      residues = r i;
      atoms = t i;
      rows = (a.rows ∙ sym b.rows) i;
      skipped = (a.skipped ∙ sym b.skipped) i;
      outdone = (a.outdone ∙ sym b.outdone) i;
      assumed = (a.assumed ∙ sym b.assumed) i;
    }

pub ruled_is_model : (l : List Taken) (st : State) → All Proper (sites l) → Ruled l st → st ≡ model_of l
ruled_is_model l st p a = rules_decide l st (model_of l) a (fold_keeps_rules l p)
