-- The residue names, in the order of the Rust's context.rs: 40 canonical names, and 154 aliases that each lead to one of them.
use Rattle.std.specs.Prelude.{ℕ, List, [], ◌∷◌, ◌++◌, Bool, false, ◌||◌, cond, eqb, Option, Some, None}
use Prim.Native.String.{String}
use Rattle.ascii.specs.Bytes.{bytes}
use Rattle.names.specs.declared.residues.StandardResidue.{StandardResidue}
use Rattle.names.specs.declared.residues.StandardResidue.TheVariants.{ALA, ARG, ASN, ASP, CYS, GLN, GLU, GLY, HIS, ILE, LEU, LYS, MET, PHE, PRO, SER, THR, TRP, TYR, VAL, A, C, G, U, I, DA, DC, DG, DT, DI, HOH}
use Rattle.names.specs.declared.table.Resolved.{Resolved}
use Rattle.names.specs.Packing.{packed}

-- a name, the canonical name that it leads to, and the standard residue of that; the names are packed
pub record Row : Type 0 where
  pub name : ℕ
  pub target : ℕ
  pub residue : StandardResidue

abbrev pub row : String → String → StandardResidue → Row
row name target residue = record { name = packed (bytes name); target = packed (bytes target); residue = residue }

-- a canonical name leads to itself
abbrev pub itself : String → StandardResidue → Row
itself name residue = row name name residue

unfoldable pub canonical : List Row
canonical =
    itself "ALA" ALA
    ∷ itself "ARG" ARG
    ∷ itself "ARN" ARG
    ∷ itself "ASN" ASN
    ∷ itself "ASP" ASP
    ∷ itself "ASH" ASP
    ∷ itself "CYS" CYS
    ∷ itself "CYM" CYS
    ∷ itself "CYX" CYS
    ∷ itself "GLN" GLN
    ∷ itself "GLU" GLU
    ∷ itself "GLH" GLU
    ∷ itself "GLY" GLY
    ∷ itself "HID" HIS
    ∷ itself "HIE" HIS
    ∷ itself "HIP" HIS
    ∷ itself "ILE" ILE
    ∷ itself "LEU" LEU
    ∷ itself "LYS" LYS
    ∷ itself "LYN" LYS
    ∷ itself "MET" MET
    ∷ itself "PHE" PHE
    ∷ itself "PRO" PRO
    ∷ itself "SER" SER
    ∷ itself "THR" THR
    ∷ itself "TRP" TRP
    ∷ itself "TYR" TYR
    ∷ itself "TYM" TYR
    ∷ itself "VAL" VAL
    ∷ itself "DA" DA
    ∷ itself "DC" DC
    ∷ itself "DG" DG
    ∷ itself "DT" DT
    ∷ itself "DI" DI
    ∷ itself "A" A
    ∷ itself "C" C
    ∷ itself "G" G
    ∷ itself "U" U
    ∷ itself "I" I
    ∷ itself "HOH" HOH
    ∷ []

unfoldable pub aliases : List Row
aliases =
    row "AIB" "ALA" ALA
    ∷ row "ALM" "ALA" ALA
    ∷ row "AYA" "ALA" ALA
    ∷ row "BNN" "ALA" ALA
    ∷ row "CHG" "ALA" ALA
    ∷ row "CSD" "ALA" ALA
    ∷ row "DAL" "ALA" ALA
    ∷ row "DHA" "ALA" ALA
    ∷ row "DNP" "ALA" ALA
    ∷ row "FLA" "ALA" ALA
    ∷ row "HAC" "ALA" ALA
    ∷ row "MAA" "ALA" ALA
    ∷ row "PRR" "ALA" ALA
    ∷ row "TIH" "ALA" ALA
    ∷ row "TPQ" "ALA" ALA
    ∷ row "ACL" "ARG" ARG
    ∷ row "AGM" "ARG" ARG
    ∷ row "ARM" "ARG" ARG
    ∷ row "DAR" "ARG" ARG
    ∷ row "HAR" "ARG" ARG
    ∷ row "HMR" "ARG" ARG
    ∷ row "AR0" "ARN" ARG
    ∷ row "MEN" "ASN" ASN
    ∷ row "2AS" "ASP" ASP
    ∷ row "ASA" "ASP" ASP
    ∷ row "ASB" "ASP" ASP
    ∷ row "ASK" "ASP" ASP
    ∷ row "ASL" "ASP" ASP
    ∷ row "ASQ" "ASP" ASP
    ∷ row "BHD" "ASP" ASP
    ∷ row "DAS" "ASP" ASP
    ∷ row "DSP" "ASP" ASP
    ∷ row "IAS" "ASP" ASP
    ∷ row "BCS" "CYS" CYS
    ∷ row "BUC" "CYS" CYS
    ∷ row "C5C" "CYS" CYS
    ∷ row "C6C" "CYS" CYS
    ∷ row "CAS" "CYS" CYS
    ∷ row "CCS" "CYS" CYS
    ∷ row "CEA" "CYS" CYS
    ∷ row "CME" "CYS" CYS
    ∷ row "CSO" "CYS" CYS
    ∷ row "CSP" "CYS" CYS
    ∷ row "CSS" "CYS" CYS
    ∷ row "CSW" "CYS" CYS
    ∷ row "CSX" "CYS" CYS
    ∷ row "CY1" "CYS" CYS
    ∷ row "CY3" "CYS" CYS
    ∷ row "CYG" "CYS" CYS
    ∷ row "CYQ" "CYS" CYS
    ∷ row "DCY" "CYS" CYS
    ∷ row "EFC" "CYS" CYS
    ∷ row "OCS" "CYS" CYS
    ∷ row "PEC" "CYS" CYS
    ∷ row "PR3" "CYS" CYS
    ∷ row "PYX" "CYS" CYS
    ∷ row "SCH" "CYS" CYS
    ∷ row "SCS" "CYS" CYS
    ∷ row "SCY" "CYS" CYS
    ∷ row "SHC" "CYS" CYS
    ∷ row "SMC" "CYS" CYS
    ∷ row "SOC" "CYS" CYS
    ∷ row "5HP" "GLU" GLU
    ∷ row "CGU" "GLU" GLU
    ∷ row "DGL" "GLU" GLU
    ∷ row "GGL" "GLU" GLU
    ∷ row "GMA" "GLU" GLU
    ∷ row "PCA" "GLU" GLU
    ∷ row "GLP" "GLH" GLU
    ∷ row "DGN" "GLN" GLN
    ∷ row "GL3" "GLY" GLY
    ∷ row "GLZ" "GLY" GLY
    ∷ row "GSC" "GLY" GLY
    ∷ row "MPQ" "GLY" GLY
    ∷ row "MSA" "GLY" GLY
    ∷ row "NMC" "GLY" GLY
    ∷ row "SAR" "GLY" GLY
    ∷ row "HSD" "HID" HIS
    ∷ row "HIS" "HID" HIS
    ∷ row "3AH" "HID" HIS
    ∷ row "DHI" "HID" HIS
    ∷ row "HIC" "HID" HIS
    ∷ row "MHS" "HID" HIS
    ∷ row "NEM" "HID" HIS
    ∷ row "NEP" "HID" HIS
    ∷ row "HSE" "HIE" HIS
    ∷ row "DIL" "ILE" ILE
    ∷ row "IIL" "ILE" ILE
    ∷ row "BUG" "LEU" LEU
    ∷ row "CLE" "LEU" LEU
    ∷ row "DLE" "LEU" LEU
    ∷ row "MK8" "LEU" LEU
    ∷ row "MLE" "LEU" LEU
    ∷ row "NLE" "LEU" LEU
    ∷ row "NLN" "LEU" LEU
    ∷ row "NLP" "LEU" LEU
    ∷ row "5OW" "LYS" LYS
    ∷ row "ALY" "LYS" LYS
    ∷ row "DLY" "LYS" LYS
    ∷ row "KCX" "LYS" LYS
    ∷ row "LLP" "LYS" LYS
    ∷ row "LLY" "LYS" LYS
    ∷ row "LYM" "LYS" LYS
    ∷ row "LYZ" "LYS" LYS
    ∷ row "SHR" "LYS" LYS
    ∷ row "TRG" "LYS" LYS
    ∷ row "CXM" "MET" MET
    ∷ row "FME" "MET" MET
    ∷ row "MSE" "MET" MET
    ∷ row "OMT" "MET" MET
    ∷ row "DAH" "PHE" PHE
    ∷ row "DPN" "PHE" PHE
    ∷ row "HPQ" "PHE" PHE
    ∷ row "PHI" "PHE" PHE
    ∷ row "PHL" "PHE" PHE
    ∷ row "DPR" "PRO" PRO
    ∷ row "HYP" "PRO" PRO
    ∷ row "DSN" "SER" SER
    ∷ row "MIS" "SER" SER
    ∷ row "OAS" "SER" SER
    ∷ row "SAC" "SER" SER
    ∷ row "SEL" "SER" SER
    ∷ row "SEP" "SER" SER
    ∷ row "SET" "SER" SER
    ∷ row "SVA" "SER" SER
    ∷ row "ALO" "THR" THR
    ∷ row "BMT" "THR" THR
    ∷ row "DTH" "THR" THR
    ∷ row "TPO" "THR" THR
    ∷ row "DTR" "TRP" TRP
    ∷ row "HTR" "TRP" TRP
    ∷ row "LTR" "TRP" TRP
    ∷ row "TPL" "TRP" TRP
    ∷ row "TRO" "TRP" TRP
    ∷ row "DTY" "TYR" TYR
    ∷ row "IYR" "TYR" TYR
    ∷ row "PAQ" "TYR" TYR
    ∷ row "PTR" "TYR" TYR
    ∷ row "STY" "TYR" TYR
    ∷ row "TYB" "TYR" TYR
    ∷ row "TYI" "TYR" TYR
    ∷ row "TYQ" "TYR" TYR
    ∷ row "TYS" "TYR" TYR
    ∷ row "TYY" "TYR" TYR
    ∷ row "APP" "ASH" ASP
    ∷ row "DIV" "VAL" VAL
    ∷ row "DVA" "VAL" VAL
    ∷ row "MVA" "VAL" VAL
    ∷ row "WAT" "HOH" HOH
    ∷ row "SOL" "HOH" HOH
    ∷ row "TIP" "HOH" HOH
    ∷ row "TIP3" "HOH" HOH
    ∷ row "TP3" "HOH" HOH
    ∷ row "SPC" "HOH" HOH
    ∷ []

-- one of the rows has the name n
unfoldable pub named : ℕ → List Row → Bool
named n [] = false
named n (r ∷ l) = eqb r.name n || named n l

abbrev pub is_canonical : ℕ → Bool
is_canonical n = named n canonical

-- what the first row with the name n says
unfoldable pub resolve_in : ℕ → List Row → Option Resolved
resolve_in n [] = None
resolve_in n (r ∷ l) = cond (eqb r.name n) (Some (record { name = r.target; residue = r.residue })) (resolve_in n l)

unfoldable pub resolve_of : ℕ → Option Resolved
resolve_of n = resolve_in n (canonical ++ aliases)
