-- A residue of neither kind has one position whatever stands around it; of another one, the chain met last and those after it decide.
use mathlib.Core.Path.{◌≡◌, refl, sym}
use mathlib.Core.Bool.{Bool, false, not, false≢true}
use mathlib.Core.List.{List}
use Prim.Native.Nat.{ℕ, ◌+◌}
use native.Mathlib.Numerals.{add-one}
use lib.Dec.{eqb}
use Rattle.names.specs.Polymers.{polymer_of}
use Rattle.names.specs.Positions.{position_code}
use Rattle.names.specs.declared.residues.Polymer.{Polymer}
use Rattle.names.specs.declared.residues.Polymer.TheVariants.{Protein, Nucleic, Neither}
use Rattle.model.specs.Keys.{chain_part}
use Rattle.model.specs.Termini.{position_by, of_either, is_polymer}
use Rattle.model.specs.Neighbours.{ends_chain, position_between}

neither_placed : (p : Polymer) (first last first' last' : Bool) → of_either p ≡ false → position_by p first last ≡ position_by p first' last'
neither_placed Protein first last first' last' e = absurd (false≢true (sym e))
neither_placed Nucleic first last first' last' e = absurd (false≢true (sym e))
neither_placed Neither first last first' last' e = refl

pub not_placed : (code : ℕ) (first last first' last' : Bool) → is_polymer code ≡ false → position_by (polymer_of code) first last ≡ position_by (polymer_of code) first' last'
unfolding is_polymer
not_placed code first last first' last' e = neither_placed (polymer_of code) first last first' last' e

-- the place of the chain, and the test of those after it, as they were found
pub placed_by : (met key code chain : ℕ) (last : Bool) (after : List (ℕ × ℕ)) → chain ≡ chain_part key → last ≡ ends_chain chain after
    → position_code (position_by (polymer_of code) (not (eqb met (chain + 1))) last) ≡ position_between met key code after
unfolding position_between
placed_by met key code chain last after e f = rw (f, e, add-one)
