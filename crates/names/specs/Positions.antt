-- The positions of residues in their chain, the number that stands for each in a lent record, and the name that it is shown by.
use Rattle.std.specs.Prelude.{ℕ, List, [], ◌∷◌, map, get_or, Option, Some, None}
use Rattle.ascii.specs.Bytes.{bytes}
use Rattle.names.specs.declared.residues.ResiduePosition.{ResiduePosition}

abbrev pub position_code : ResiduePosition → ℕ
position_code ResiduePosition.None = 0
position_code ResiduePosition.Internal = 1
position_code ResiduePosition.NTerminal = 2
position_code ResiduePosition.CTerminal = 3
position_code ResiduePosition.FivePrime = 4
position_code ResiduePosition.ThreePrime = 5

abbrev pub position_name : ResiduePosition → List ℕ
position_name ResiduePosition.None = bytes "None"
position_name ResiduePosition.Internal = bytes "Internal"
position_name ResiduePosition.NTerminal = bytes "N-Terminal"
position_name ResiduePosition.CTerminal = bytes "C-Terminal"
position_name ResiduePosition.FivePrime = bytes "5'-Terminal"
position_name ResiduePosition.ThreePrime = bytes "3'-Terminal"

-- in the order of their numbers, from 0 on
unfoldable pub residue_positions : List ResiduePosition
residue_positions =
    ResiduePosition.None
    ∷ ResiduePosition.Internal
    ∷ ResiduePosition.NTerminal
    ∷ ResiduePosition.CTerminal
    ∷ ResiduePosition.FivePrime
    ∷ ResiduePosition.ThreePrime
    ∷ []

-- the positions of the numbers from 0 on
unfoldable pub positions : List (Option ResiduePosition)
positions = map Some residue_positions

-- the position of a number; past the list there is none
unfoldable pub position_of : ℕ → Option ResiduePosition
position_of n = get_or positions n None
