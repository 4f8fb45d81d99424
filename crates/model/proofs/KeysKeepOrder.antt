-- The order of the keys is the model's order: a higher number always outweighs the lower ones, which stay below one step of it.
use mathlib.Core.Path.{◌≡◌}
use mathlib.Core.Logic.{◌↔◌, ◌⊎◌, inl, inr}
use mathlib.Core.List.{List}
use Prim.Native.Nat.{ℕ, ◌^◌, ◌<◌, compare, Ordering}
use native.Mathlib.Omega.{arith}
use Rattle.numbers.proofs.Comparing.{Compared, compared}
use Rattle.rows.specs.declared.rules.Site.{Site}
use Rattle.model.specs.Chains.{chain_place}
use Rattle.model.specs.Keys.{residue_key, atom_place, residue_at, atom_at, ResidueBefore, AtomBefore}
use Rattle.model.specs.Proper.{Proper}

-- ---- the numbers
module _ (p q a b c d : ℕ) (h : a < 2 ^ 32) (i : b < 2 ^ 32) (j : c < 2 ^ 8) (k : d < 2 ^ 8) where
  key_above : (p < q) ⊎ ((p ≡ q) × ((a < b) ⊎ ((a ≡ b) × (c < d)))) → residue_key p a c < residue_key q b d
  key_above (inl e) = omega arith
  key_above (inr (e, inl f)) = omega arith
  key_above (inr (e, inr (f, g))) = omega arith

  above_key : residue_key p a c < residue_key q b d → (p < q) ⊎ ((p ≡ q) × ((a < b) ⊎ ((a ≡ b) × (c < d))))
  above_key l = go (compare p q) (compared p q) (compare a b) (compared a b)
    where
      go : (o : Ordering) → Compared o p q → (u : Ordering) → Compared u a b → (p < q) ⊎ ((p ≡ q) × ((a < b) ⊎ ((a ≡ b) × (c < d))))
      go Ordering.lt e u f = inl e
      go Ordering.eq e Ordering.lt f = inr (e, inl f)
      go Ordering.eq e Ordering.eq f = inr (e, inr (f, omega arith))
      go Ordering.eq e Ordering.gt f = absurd (omega arith)
      go Ordering.gt e u f = absurd (omega arith)

module _ (p q a b : ℕ) (h : a < 2 ^ 64) (i : b < 2 ^ 64) where
  place_above : (p < q) ⊎ ((p ≡ q) × (a < b)) → atom_place p a < atom_place q b
  place_above (inl e) = omega arith
  place_above (inr (e, f)) = omega arith

  above_place : atom_place p a < atom_place q b → (p < q) ⊎ ((p ≡ q) × (a < b))
  above_place l = go (compare p q) (compared p q)
    where
      go : (o : Ordering) → Compared o p q → (p < q) ⊎ ((p ≡ q) × (a < b))
      go Ordering.lt e = inl e
      go Ordering.eq e = inr (e, omega arith)
      go Ordering.gt e = absurd (omega arith)

-- ---- the theorems
module _ (chains : List ℕ) (s t : Site) (u : Proper s) (v : Proper t) where
  pub residues_in_order : (residue_at chains s < residue_at chains t) ↔ ResidueBefore chains s t
  unfolding residue_at
  residues_in_order = (
    above_key (chain_place s.chain chains) (chain_place t.chain chains) s.sequence t.sequence _ _ u.sequence v.sequence u.code v.code,
    key_above (chain_place s.chain chains) (chain_place t.chain chains) s.sequence t.sequence _ _ u.sequence v.sequence u.code v.code,
  )

  pub atoms_in_order : (atom_at chains s < atom_at chains t) ↔ AtomBefore chains s t
  unfolding atom_at
  atoms_in_order = (
    λ l. to (above_place (residue_at chains s) (residue_at chains t) s.atom t.atom u.atom v.atom l),
    λ b. place_above (residue_at chains s) (residue_at chains t) s.atom t.atom u.atom v.atom (from b),
  )
    where
      to : (residue_at chains s < residue_at chains t) ⊎ ((residue_at chains s ≡ residue_at chains t) × (s.atom < t.atom)) → AtomBefore chains s t
      to (inl l) = inl (residues_in_order.0 l)
      to (inr e) = inr e

      from : AtomBefore chains s t → (residue_at chains s < residue_at chains t) ⊎ ((residue_at chains s ≡ residue_at chains t) × (s.atom < t.atom))
      from (inl b) = inl (residues_in_order.1 b)
      from (inr e) = inr e
