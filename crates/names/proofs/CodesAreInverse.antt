-- Each residue, category and position is found by its number, and what a number finds has that number.
use mathlib.Core.Path.{◌≡◌, refl}
use Prim.Native.Nat.{ℕ}
use native.Mathlib.Omega.{arith}
use Rattle.std.specs.Prelude.{Option, Some, None}
use Rattle.names.specs.declared.residues.StandardResidue.{StandardResidue}
use Rattle.names.specs.declared.residues.StandardResidue.TheVariants.{ALA, ARG, ASN, ASP, CYS, GLN, GLU, GLY, HIS, ILE, LEU, LYS, MET, PHE, PRO, SER, THR, TRP, TYR, VAL, A, C, G, U, I, DA, DC, DG, DT, DI, HOH}
use Rattle.names.specs.declared.residues.ResidueCategory.{ResidueCategory}
use Rattle.names.specs.declared.residues.ResiduePosition.{ResiduePosition}
use Rattle.names.specs.Residues.{standard_residues, residues, residue_code, residue_of}
use Rattle.names.specs.Categories.{residue_categories, categories, category_code, category_of}
use Rattle.names.specs.Positions.{residue_positions, positions, position_code, position_of}
use Rattle.names.proofs.TablesByTest.{numbered}

-- the number of what a number finds; 0 where it finds nothing
abbrev code_in : {A : Type 0} → (A → ℕ) → Option A → ℕ
code_in code (Some a) = code a
code_in code None = 0

some_not : {A : Type 0} {a : A} → Some a ≡ None → ⊥
some_not e = let z : ◌≡◌ {A = ℕ} 0 1 = cc in omega arith

pub residue_again : (r : StandardResidue) → residue_of (residue_code r) ≡ Some r
unfolding standard_residues residues residue_code residue_of
residue_again ALA = refl
residue_again ARG = refl
residue_again ASN = refl
residue_again ASP = refl
residue_again CYS = refl
residue_again GLN = refl
residue_again GLU = refl
residue_again GLY = refl
residue_again HIS = refl
residue_again ILE = refl
residue_again LEU = refl
residue_again LYS = refl
residue_again MET = refl
residue_again PHE = refl
residue_again PRO = refl
residue_again SER = refl
residue_again THR = refl
residue_again TRP = refl
residue_again TYR = refl
residue_again VAL = refl
residue_again A = refl
residue_again C = refl
residue_again G = refl
residue_again U = refl
residue_again I = refl
residue_again DA = refl
residue_again DC = refl
residue_again DG = refl
residue_again DT = refl
residue_again DI = refl
residue_again HOH = refl

pub residue_number : (n : ℕ) (r : StandardResidue) → residue_of n ≡ Some r → residue_code r ≡ n
unfolding standard_residues residues residue_code residue_of
residue_number n r e = numbered (code_in residue_code) residues None (Some r) refl some_not n e

pub category_again : (g : ResidueCategory) → category_of (category_code g) ≡ Some g
unfolding residue_categories categories category_of
category_again ResidueCategory.Standard = refl
category_again ResidueCategory.Hetero = refl
category_again ResidueCategory.Ion = refl

pub category_number : (n : ℕ) (g : ResidueCategory) → category_of n ≡ Some g → category_code g ≡ n
unfolding residue_categories categories category_of
category_number n g e = numbered (code_in category_code) categories None (Some g) refl some_not n e

pub position_again : (p : ResiduePosition) → position_of (position_code p) ≡ Some p
unfolding residue_positions positions position_of
position_again ResiduePosition.None = refl
position_again ResiduePosition.Internal = refl
position_again ResiduePosition.NTerminal = refl
position_again ResiduePosition.CTerminal = refl
position_again ResiduePosition.FivePrime = refl
position_again ResiduePosition.ThreePrime = refl

pub position_number : (n : ℕ) (p : ResiduePosition) → position_of n ≡ Some p → position_code p ≡ n
unfolding residue_positions positions position_of
position_number n p e = numbered (code_in position_code) positions None (Some p) refl some_not n e
