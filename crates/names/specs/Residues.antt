-- The standard residues: the number that stands for each in a lent record, and the name that it is shown by.
use Rattle.std.specs.Prelude.{ℕ, List, [], ◌∷◌, map, get_or, Option, Some, None}
use Rattle.ascii.specs.Bytes.{bytes}
use Rattle.names.specs.declared.residues.StandardResidue.{StandardResidue}
use Rattle.names.specs.declared.residues.StandardResidue.TheVariants.{ALA, ARG, ASN, ASP, CYS, GLN, GLU, GLY, HIS, ILE, LEU, LYS, MET, PHE, PRO, SER, THR, TRP, TYR, VAL, A, C, G, U, I, DA, DC, DG, DT, DI, HOH}

-- in the order of their numbers, from 1 on
unfoldable pub standard_residues : List StandardResidue
standard_residues =
    ALA ∷ ARG ∷ ASN ∷ ASP ∷ CYS ∷ GLN ∷ GLU ∷ GLY ∷ HIS ∷ ILE
    ∷ LEU ∷ LYS ∷ MET ∷ PHE ∷ PRO ∷ SER ∷ THR ∷ TRP ∷ TYR ∷ VAL
    ∷ A ∷ C ∷ G ∷ U ∷ I ∷ DA ∷ DC ∷ DG ∷ DT ∷ DI
    ∷ HOH ∷ []

-- the residues of the numbers from 0 on, of which 0 has none
unfoldable pub residues : List (Option StandardResidue)
residues = None ∷ map Some standard_residues

unfoldable pub residue_code : StandardResidue → ℕ
residue_code ALA = 1
residue_code ARG = 2
residue_code ASN = 3
residue_code ASP = 4
residue_code CYS = 5
residue_code GLN = 6
residue_code GLU = 7
residue_code GLY = 8
residue_code HIS = 9
residue_code ILE = 10
residue_code LEU = 11
residue_code LYS = 12
residue_code MET = 13
residue_code PHE = 14
residue_code PRO = 15
residue_code SER = 16
residue_code THR = 17
residue_code TRP = 18
residue_code TYR = 19
residue_code VAL = 20
residue_code A = 21
residue_code C = 22
residue_code G = 23
residue_code U = 24
residue_code I = 25
residue_code DA = 26
residue_code DC = 27
residue_code DG = 28
residue_code DT = 29
residue_code DI = 30
residue_code HOH = 31

-- the residue of a number; past the list there is none
unfoldable pub residue_of : ℕ → Option StandardResidue
residue_of n = get_or residues n None

unfoldable pub residue_name : StandardResidue → List ℕ
residue_name ALA = bytes "ALA"
residue_name ARG = bytes "ARG"
residue_name ASN = bytes "ASN"
residue_name ASP = bytes "ASP"
residue_name CYS = bytes "CYS"
residue_name GLN = bytes "GLN"
residue_name GLU = bytes "GLU"
residue_name GLY = bytes "GLY"
residue_name HIS = bytes "HIS"
residue_name ILE = bytes "ILE"
residue_name LEU = bytes "LEU"
residue_name LYS = bytes "LYS"
residue_name MET = bytes "MET"
residue_name PHE = bytes "PHE"
residue_name PRO = bytes "PRO"
residue_name SER = bytes "SER"
residue_name THR = bytes "THR"
residue_name TRP = bytes "TRP"
residue_name TYR = bytes "TYR"
residue_name VAL = bytes "VAL"
residue_name A = bytes "A"
residue_name C = bytes "C"
residue_name G = bytes "G"
residue_name U = bytes "U"
residue_name I = bytes "I"
residue_name DA = bytes "DA"
residue_name DC = bytes "DC"
residue_name DG = bytes "DG"
residue_name DT = bytes "DT"
residue_name DI = bytes "DI"
residue_name HOH = bytes "HOH"
