-- The numbers of the residues are the variants' own, by one computed test of all of them.
use mathlib.Core.Path.{◌≡◌, refl}
use Prim.Native.Nat.{◌+◌}
use denote.Enum.Declared.{tag_of}
use Rattle.names.specs.declared.residues.StandardResidue.{StandardResidue}
use Rattle.names.specs.declared.residues.StandardResidue.TheVariants.{ALA, ARG, ASN, ASP, CYS, GLN, GLU, GLY, HIS, ILE, LEU, LYS, MET, PHE, PRO, SER, THR, TRP, TYR, VAL, A, C, G, U, I, DA, DC, DG, DT, DI, HOH}
use Rattle.names.specs.contracts.residues.StandardResidue.{the_type}
use Rattle.names.specs.Residues.{residue_code}
use Rattle.names.proofs.residues.StandardResidue.code.Goals as goal

tag : (r : StandardResidue) → tag_of the_type r + 1 ≡ residue_code r
unfolding residue_code
tag ALA = refl
tag ARG = refl
tag ASN = refl
tag ASP = refl
tag CYS = refl
tag GLN = refl
tag GLU = refl
tag GLY = refl
tag HIS = refl
tag ILE = refl
tag LEU = refl
tag LYS = refl
tag MET = refl
tag PHE = refl
tag PRO = refl
tag SER = refl
tag THR = refl
tag TRP = refl
tag TYR = refl
tag VAL = refl
tag A = refl
tag C = refl
tag G = refl
tag U = refl
tag I = refl
tag DA = refl
tag DC = refl
tag DG = refl
tag DT = refl
tag DI = refl
tag HOH = refl

pub returns : goal.returns
returns c = tag c.args.self
