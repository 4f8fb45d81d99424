-- What a residue is a part of: the twenty amino acids are protein, the bases nucleic, and water neither.
use Rattle.std.specs.Prelude.{ℕ, Bool, true, false, Option, Some, None}
use Rattle.names.specs.declared.residues.StandardResidue.{StandardResidue}
use Rattle.names.specs.declared.residues.StandardResidue.TheVariants.{ALA, ARG, ASN, ASP, CYS, GLN, GLU, GLY, HIS, ILE, LEU, LYS, MET, PHE, PRO, SER, THR, TRP, TYR, VAL, A, C, G, U, I, DA, DC, DG, DT, DI, HOH}
use Rattle.names.specs.declared.residues.Polymer.{Polymer}
use Rattle.names.specs.declared.residues.Polymer.TheVariants.{Protein, Nucleic, Neither}
use Rattle.names.specs.Residues.{residue_of}

unfoldable pub kind_of : StandardResidue → Polymer
kind_of ALA = Protein
kind_of ARG = Protein
kind_of ASN = Protein
kind_of ASP = Protein
kind_of CYS = Protein
kind_of GLN = Protein
kind_of GLU = Protein
kind_of GLY = Protein
kind_of HIS = Protein
kind_of ILE = Protein
kind_of LEU = Protein
kind_of LYS = Protein
kind_of MET = Protein
kind_of PHE = Protein
kind_of PRO = Protein
kind_of SER = Protein
kind_of THR = Protein
kind_of TRP = Protein
kind_of TYR = Protein
kind_of VAL = Protein
kind_of A = Nucleic
kind_of C = Nucleic
kind_of G = Nucleic
kind_of U = Nucleic
kind_of I = Nucleic
kind_of DA = Nucleic
kind_of DC = Nucleic
kind_of DG = Nucleic
kind_of DT = Nucleic
kind_of DI = Nucleic
kind_of HOH = Neither

abbrev pub protein : Polymer → Bool
protein Protein = true
protein Nucleic = false
protein Neither = false

abbrev pub nucleic : Polymer → Bool
nucleic Protein = false
nucleic Nucleic = true
nucleic Neither = false

abbrev pub is_protein : StandardResidue → Bool
is_protein r = protein (kind_of r)

abbrev pub is_nucleic : StandardResidue → Bool
is_nucleic r = nucleic (kind_of r)

abbrev pub kind_in : Option StandardResidue → Polymer
kind_in (Some r) = kind_of r
kind_in None = Neither

-- by the residue's number in a lent record
unfoldable pub polymer_of : ℕ → Polymer
polymer_of n = kind_in (residue_of n)
