-- Positions: in each chain the first Standard non-HOH residue is NTerminal or FivePrime by its own kind, the last CTerminal or ThreePrime, a lone one
-- has the first mark, those between Internal, all others None.
use Rattle.std.specs.Prelude.{Bool, true, false, not, ◌&&◌, List, ℕ, eqb, ltb}
use Rattle.names.specs.Polymers.{polymer_of}
use Rattle.names.specs.Positions.{position_code}
use Rattle.names.specs.declared.residues.Polymer.{Polymer}
use Rattle.names.specs.declared.residues.Polymer.TheVariants.{Protein, Nucleic, Neither}
use Rattle.names.specs.declared.residues.ResiduePosition.{ResiduePosition}
use Rattle.names.specs.declared.residues.ResiduePosition.TheVariants.{Internal, NTerminal, CTerminal, FivePrime, ThreePrime}
use Rattle.model.specs.Keys.{chain_part}
use Rattle.model.specs.Lists.{any}
use Rattle.model.specs.Records.{ResidueRecord}

-- by a residue's kind, whether it is the first of its chain, and whether it is the last; of the standard residues HOH alone is of neither kind
abbrev pub position_by : Polymer → Bool → Bool → ResiduePosition
position_by Neither first last = ResiduePosition.None
position_by Protein true last = NTerminal
position_by Protein false true = CTerminal
position_by Protein false false = Internal
position_by Nucleic true last = FivePrime
position_by Nucleic false true = ThreePrime
position_by Nucleic false false = Internal

abbrev pub of_either : Polymer → Bool
of_either Protein = true
of_either Nucleic = true
of_either Neither = false

-- Standard and not HOH, by the standard code
unfoldable pub is_polymer : ℕ → Bool
is_polymer code = of_either (polymer_of code)

-- Standard and not HOH, and of the same chain as r
abbrev pub besides : ResidueRecord → ResidueRecord → Bool
besides r t = is_polymer t.code && eqb (chain_part t.key) (chain_part r.key)

-- none of them comes before r, and none after it
unfoldable pub is_first : List ResidueRecord → ResidueRecord → Bool
is_first residues r = not (any (λ t. besides r t && ltb t.key r.key) residues)

unfoldable pub is_last : List ResidueRecord → ResidueRecord → Bool
is_last residues r = not (any (λ t. besides r t && ltb r.key t.key) residues)

unfoldable pub ruled_position : List ResidueRecord → ResidueRecord → ℕ
ruled_position residues r = position_code (position_by (polymer_of r.code) (is_first residues r) (is_last residues r))
