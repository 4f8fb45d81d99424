-- What a residue is a part of and how it is shown, by its number: protein from 1 to 20, nucleic from 21 to 30.
use mathlib.Core.Path.{◌≡◌, refl, sym, ap, ◌∙◌}
use mathlib.Core.List.{map}
use mathlib.Core.Bool.{false, ◌&&◌, cond}
use Prim.Native.Nat.{ℕ, ◌≤◌, ◌<◌}
use native.Mathlib.Omega.{arith}
use native.Mathlib.Decide.{dec_lt}
use lib.Dec.{leb}
use lib.ListN.{length, get_or, get_or-map, get_or-eq_default}
use borrow.Author.Tests.{le-leb, lt-leb}
use Rattle.std.specs.Prelude.{Option, Some, None}
use Rattle.names.specs.declared.residues.StandardResidue.{StandardResidue}
use Rattle.names.specs.declared.residues.Polymer.{Polymer}
use Rattle.names.specs.declared.residues.Polymer.TheVariants.{Protein, Nucleic, Neither}
use Rattle.names.specs.Packing.{packed}
use Rattle.names.specs.Residues.{standard_residues, residues, residue_code, residue_of, residue_name}
use Rattle.names.specs.Polymers.{kind_of, kind_in, protein, nucleic, polymer_of}
use Rattle.names.proofs.CodesAreInverse.{residue_again}
use Rattle.names.proofs.TablesByTest.{tabled}

-- ---- what it is a part of
abbrev ranged : ℕ → Polymer
ranged n = cond (leb 1 n && leb n 20) Protein (cond (leb 21 n && leb n 30) Nucleic Neither)

by_range : (n : ℕ) → n < 32 → polymer_of n ≡ ranged n
unfolding standard_residues residues residue_of kind_of polymer_of
by_range n h = tabled kind_in ranged residues None refl n h

pub is_protein_lem : (n : ℕ) → 1 ≤ n → n < 21 → polymer_of n ≡ Protein
is_protein_lem n h k = by_range n (omega arith) ∙ simp (le-leb 1 n h, le-leb n 20 (omega arith))

pub is_nucleic_lem : (n : ℕ) → 21 ≤ n → n < 31 → polymer_of n ≡ Nucleic
is_nucleic_lem n h k = by_range n (omega arith) ∙ simp (le-leb 1 n (omega arith), lt-leb n 20 h, le-leb 21 n h, le-leb n 30 (omega arith))

pub is_neither_first : (n : ℕ) → n < 1 → polymer_of n ≡ Neither
is_neither_first n h = by_range n (omega arith) ∙ simp (lt-leb 1 n h, lt-leb 21 n (omega arith))

pub is_neither_last : (n : ℕ) → 30 < n → polymer_of n ≡ Neither
unfolding standard_residues residues residue_of polymer_of
is_neither_last n h = go (dec_lt n 32)
  where
    past : (n < 32 → ⊥) → length residues ≤ n
    past k = omega arith

    go : Dec (n < 32) → polymer_of n ≡ Neither
    go (yes k) = by_range n k ∙ simp (le-leb 1 n (omega arith), lt-leb n 20 (omega arith), le-leb 21 n (omega arith), lt-leb n 30 h)
    go (no k) = ap kind_in (get_or-eq_default residues None (past k))

-- the kind that is found by a residue's own number is the residue's kind
pub kind_by_code : (r : StandardResidue) → kind_of r ≡ polymer_of (residue_code r)
unfolding polymer_of
kind_by_code r = sym (ap kind_in (residue_again r))

-- a kind that is not the one is the one or the other of the others
pub not_protein : (p : Polymer) → (p ≡ Protein → ⊥) → protein p ≡ false
not_protein Protein n = absurd (n refl)
not_protein Nucleic n = refl
not_protein Neither n = refl

pub not_nucleic : (p : Polymer) → (p ≡ Nucleic → ⊥) → nucleic p ≡ false
not_nucleic Protein n = refl
not_nucleic Nucleic n = absurd (n refl)
not_nucleic Neither n = refl

-- ---- how it is shown
pub number_below : (r : StandardResidue) → residue_code r < 32
unfolding standard_residues residues residue_of
number_below r = go (dec_lt (residue_code r) 32)
  where
    past : (residue_code r < 32 → ⊥) → length residues ≤ residue_code r
    past k = omega arith

    go : Dec (residue_code r < 32) → residue_code r < 32
    go (yes k) = k
    go (no k) =
        let none : None ≡ Some r = sym (get_or-eq_default residues None (past k)) ∙ residue_again r in
        let z : ◌≡◌ {A = ℕ} 0 1 = cc in
        omega arith

abbrev pub shown_in : Option StandardResidue → ℕ
shown_in (Some r) = packed (residue_name r)
shown_in None = 0

pub shown_by_number : (r : StandardResidue) → get_or (map shown_in residues) (residue_code r) 0 ≡ packed (residue_name r)
unfolding residue_of
shown_by_number r = get_or-map shown_in residues (residue_code r) None ∙ ap shown_in (residue_again r)
