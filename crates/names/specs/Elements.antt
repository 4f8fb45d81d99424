-- The elements: the symbol of each number, spelled as here, and the number of each symbol. 0 is the unknown element, written `X`.
use Rattle.std.specs.Prelude.{ℕ, suc, List, [], ◌∷◌, cond, get_or}
use Prim.Native.String.{String}
use Rattle.ascii.specs.Bytes.{bytes}
use Rattle.ascii.specs.Words.{same_bytes}
use Rattle.names.specs.Packing.{packed}

-- the symbols of the numbers from 0 on
unfoldable pub symbols : List String
symbols =
    "X"
    ∷ "H" ∷ "He"
    ∷ "Li" ∷ "Be" ∷ "B" ∷ "C" ∷ "N" ∷ "O" ∷ "F" ∷ "Ne"
    ∷ "Na" ∷ "Mg" ∷ "Al" ∷ "Si" ∷ "P" ∷ "S" ∷ "Cl" ∷ "Ar"
    ∷ "K" ∷ "Ca" ∷ "Sc" ∷ "Ti" ∷ "V" ∷ "Cr" ∷ "Mn" ∷ "Fe" ∷ "Co" ∷ "Ni" ∷ "Cu" ∷ "Zn" ∷ "Ga" ∷ "Ge" ∷ "As" ∷ "Se" ∷ "Br" ∷ "Kr"
    ∷ "Rb" ∷ "Sr" ∷ "Y" ∷ "Zr" ∷ "Nb" ∷ "Mo" ∷ "Tc" ∷ "Ru" ∷ "Rh" ∷ "Pd" ∷ "Ag" ∷ "Cd" ∷ "In" ∷ "Sn" ∷ "Sb" ∷ "Te" ∷ "I" ∷ "Xe"
    ∷ "Cs" ∷ "Ba" ∷ "La" ∷ "Ce" ∷ "Pr" ∷ "Nd" ∷ "Pm" ∷ "Sm" ∷ "Eu" ∷ "Gd" ∷ "Tb" ∷ "Dy" ∷ "Ho" ∷ "Er" ∷ "Tm" ∷ "Yb"
    ∷ "Lu" ∷ "Hf" ∷ "Ta" ∷ "W" ∷ "Re" ∷ "Os" ∷ "Ir" ∷ "Pt" ∷ "Au" ∷ "Hg" ∷ "Tl" ∷ "Pb" ∷ "Bi" ∷ "Po" ∷ "At" ∷ "Rn"
    ∷ "Fr" ∷ "Ra" ∷ "Ac" ∷ "Th" ∷ "Pa" ∷ "U" ∷ "Np" ∷ "Pu" ∷ "Am" ∷ "Cm" ∷ "Bk" ∷ "Cf" ∷ "Es" ∷ "Fm" ∷ "Md" ∷ "No"
    ∷ "Lr" ∷ "Rf" ∷ "Db" ∷ "Sg" ∷ "Bh" ∷ "Hs" ∷ "Mt" ∷ "Ds" ∷ "Rg" ∷ "Cn" ∷ "Nh" ∷ "Fl" ∷ "Mc" ∷ "Lv" ∷ "Ts" ∷ "Og" ∷ []

-- the number of the symbol s in a list of symbols that are numbered from n on; 0 where it is none of them
unfoldable pub element_from : ℕ → List ℕ → List String → ℕ
element_from n s [] = 0
element_from n s (t ∷ l) = cond (same_bytes s (bytes t)) n (element_from (suc n) s l)

unfoldable pub element_of : List ℕ → ℕ
element_of s = element_from 0 s symbols

-- the symbol as a packed name
unfoldable pub symbol_of : ℕ → ℕ
symbol_of n = packed (bytes (get_or symbols n "X"))
