-- The model of some rows, made one row at a time.
use Rattle.std.specs.Prelude.{Bool, cond, List, [], ◌∷◌, ℕ, suc, ◌+◌, Float}
use Rattle.std.proofs.Math.Option.{Option, none, some}
use Rattle.std.specs.Float.Ieee.{lt}
use Rattle.rows.specs.declared.rules.Point3.{Point3}
use Rattle.rows.specs.declared.rules.Site.{Site}
use Rattle.model.specs.Chains.{with_chain}
use Rattle.model.specs.Keys.{residue_at, atom_at}
use Rattle.model.specs.Lists.{count}
use Rattle.model.specs.Map.{Map, find, put}
use Rattle.model.specs.Taken.{Taken, skipped, site}

-- what a row says of its residue: the raw name and the HETATM mark
pub record Residue : Type 0 where
  pub name : ℕ
  pub hetatm : Bool

-- what a row says of its atom
pub record Atom : Type 0 where
  pub element : ℕ
  pub position : Point3
  pub occupancy : Float

abbrev pub residue_of : Site → Residue
residue_of s = record { name = s.residue; hetatm = s.hetatm }

abbrev pub atom_of : Site → Atom
atom_of s = record { element = s.element; position = s.position; occupancy = s.occupancy }

-- a residue is what its first row says
abbrev pub first : Site → Option Residue → Residue
first s none = residue_of s
first s (some r) = r

-- a later row of the same atom replaces only with a strictly greater occupancy
abbrev pub greater : Site → Option Atom → Atom
greater s none = atom_of s
greater s (some a) = cond (lt a.occupancy s.occupancy) (atom_of s) a

-- of two rows of one atom one is outdone
abbrev pub outdone_with : Option Atom → ℕ → ℕ
outdone_with none n = n
outdone_with (some a) n = suc n

pub record State : Type 0 where
  pub chains : List ℕ
  pub residues : Map Residue
  pub atoms : Map Atom
  pub rows : ℕ
  pub skipped : ℕ
  pub outdone : ℕ
  pub assumed : ℕ

abbrev pub start : State
start = record { chains = []; residues = []; atoms = []; rows = 0; skipped = 0; outdone = 0; assumed = 0 }

-- a skipped row makes nothing
unfoldable pub step : State → Taken → State
step st skipped = record {
  chains = st.chains;
  residues = st.residues;
  atoms = st.atoms;
  rows = suc st.rows;
  skipped = suc st.skipped;
  outdone = st.outdone;
  assumed = st.assumed;
}
step st (site s) =
    let chains = with_chain s.chain st.chains in
    record {
      chains = chains;
      residues = put (residue_at chains s) (first s) st.residues;
      atoms = put (atom_at chains s) (greater s) st.atoms;
      rows = suc st.rows;
      skipped = st.skipped;
      outdone = outdone_with (find (atom_at chains s) st.atoms) st.outdone;
      assumed = st.assumed + count s.assumed;
    }

unfoldable pub run : State → List Taken → State
run st [] = st
run st (r ∷ l) = run (step st r) l

abbrev pub model_of : List Taken → State
model_of l = run start l
