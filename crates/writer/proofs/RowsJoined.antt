-- The rows of one record more are the rows so far, and its own behind them.
use mathlib.Core.Path.{◌≡◌, refl, sym, ap, ◌∙◌}
use mathlib.Core.Bool.{cond}
use mathlib.Core.List.{List, [], ◌∷◌, ◌++◌, append_assoc, append-nil}
use Prim.Native.Nat.{ℕ, suc, ◌+◌}
use native.Mathlib.Nat.{zero-add, add-zero}
use native.Mathlib.Omega.{arith}
use lib.ListN.{length}
use Rattle.model.specs.Lent.{list_from}
use Rattle.model.specs.Records.{ResidueRecord, AtomRecord, Model}
use Rattle.model.specs.Termini.{is_polymer}
use Rattle.row_texts.specs.Rows.{atom_text, polymer_text}
use Rattle.writer.specs.Text.{atom_row_of, polymer_row_of, atom_rows, polymer_rows}
use Rattle.writer.proofs.ListsByIndex.{from_split, from_length}

-- ---- one more
from_more : {A : Type 0} (at : ℕ → A) (i : ℕ) → list_from at 0 (i + 1) ≡ list_from at 0 i ++ at i ∷ []
unfolding list_from
from_more {A} at i = from_split at 0 i 1 ∙ ap (λ (k : ℕ). list_from at 0 i ++ at k ∷ []) (zero-add i)

-- ---- atoms
module _ (m : Model) where
  atoms_append : (id : ℕ) (l : List AtomRecord) (a : AtomRecord) → atom_rows m id (l ++ a ∷ []) ≡ atom_rows m id l ++ atom_text (atom_row_of m (id + length l) a)
  unfolding atom_rows
  atoms_append id [] a = append-nil (atom_text (atom_row_of m id a)) ∙ ap (λ (n : ℕ). atom_text (atom_row_of m n a)) (sym (add-zero id))
  atoms_append id (b ∷ l) a =
      let on : suc id + length l ≡ id + suc (length l) = omega arith in
      ap (λ (t : List ℕ). atom_text (atom_row_of m id b) ++ t) (atoms_append (suc id) l a ∙ ap (λ (n : ℕ). atom_rows m (suc id) l ++ atom_text (atom_row_of m n a)) on)
      ∙ sym (append_assoc (atom_text (atom_row_of m id b)) (atom_rows m (suc id) l) (atom_text (atom_row_of m (id + suc (length l)) a)))

  pub atoms_more : (at : ℕ → AtomRecord) (i : ℕ) → atom_rows m 1 (list_from at 0 (i + 1)) ≡ atom_rows m 1 (list_from at 0 i) ++ atom_text (atom_row_of m (i + 1) (at i))
  atoms_more at i =
      let id : 1 + length (list_from at 0 i) ≡ i + 1 = omega (arith, from_length at 0 i) in
      ap (atom_rows m 1) (from_more at i)
      ∙ atoms_append 1 (list_from at 0 i) (at i)
      ∙ ap (λ (n : ℕ). atom_rows m 1 (list_from at 0 i) ++ atom_text (atom_row_of m n (at i))) id

-- ---- residues
abbrev pub polymer_row : Model → ResidueRecord → List ℕ
polymer_row m r = cond (is_polymer r.code) (polymer_text (polymer_row_of m r)) []

module _ (m : Model) where
  polymers_append : (l : List ResidueRecord) (r : ResidueRecord) → polymer_rows m (l ++ r ∷ []) ≡ polymer_rows m l ++ polymer_row m r
  unfolding polymer_rows
  polymers_append [] r = append-nil (polymer_row m r)
  polymers_append (s ∷ l) r = ap (λ (t : List ℕ). polymer_row m s ++ t) (polymers_append l r) ∙ sym (append_assoc (polymer_row m s) (polymer_rows m l) (polymer_row m r))

  pub polymers_more : (at : ℕ → ResidueRecord) (i : ℕ) → polymer_rows m (list_from at 0 (i + 1)) ≡ polymer_rows m (list_from at 0 i) ++ polymer_row m (at i)
  polymers_more at i = ap (polymer_rows m) (from_more at i) ∙ polymers_append (list_from at 0 i) (at i)

  -- they know of the residues alone
  pub polymers_by_residues : (l : List ResidueRecord) → polymer_rows m l ≡ polymer_rows (record { chains = []; residues = m.residues; atoms = [] }) l
  unfolding polymer_rows
  polymers_by_residues [] = refl
  polymers_by_residues (r ∷ l) = ap (λ (t : List ℕ). polymer_row m r ++ t) (polymers_by_residues l)

-- nothing where there are none
pub no_atoms : (m : Model) (at : ℕ → AtomRecord) → [] ≡ atom_rows m 1 (list_from at 0 0)
unfolding atom_rows list_from
no_atoms m at = refl

pub no_polymers : (m : Model) (at : ℕ → ResidueRecord) → [] ≡ polymer_rows m (list_from at 0 0)
unfolding polymer_rows list_from
no_polymers m at = refl
