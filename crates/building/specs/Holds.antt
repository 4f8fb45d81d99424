-- Which model the lent slices hold, one slice to a field.
use Rattle.std.specs.Prelude.{◌≡◌, List, map, ℕ, ◌≤◌, Float, length, take}
use Rattle.model.specs.Fold.{Residue, Atom, State}
use Rattle.model.specs.Finished.{key_part, name_part}
use Rattle.model.specs.Lent.{Lent, coordinates}
use Rattle.model.specs.declared.lent.AtomsMut.{AtomsMut}
use Rattle.model.specs.declared.lent.ResiduesMut.{ResiduesMut}
use Rattle.model.specs.Lists.{count}
use Rattle.model.specs.Map.{Entry, Map, Ascending}
use Rattle.model.specs.declared.room.Room.{Room}
use Rattle.model.specs.Room.{Fits}
use Rattle.building.specs.declared.sites.Counts.{Counts}
use Rattle.building.specs.Slices.{Distinct}

-- what the slices hold
pub record Records : Type 0 where
  pub chains : List ℕ
  pub residue_keys : List ℕ
  pub residue_names : List ℕ
  pub residue_marks : List ℕ
  pub atom_keys : List ℕ
  pub atom_names : List ℕ
  pub elements : List ℕ
  pub positions : List (List Float)
  pub occupancies : List Float

abbrev pub records_of : List ℕ → List ℕ → List ℕ → List ℕ → List ℕ → List ℕ → List ℕ → List (List Float) → List Float → Records
records_of chains residue_keys residue_names residue_marks atom_keys atom_names elements positions occupancies = record {
  chains = chains;
  residue_keys = residue_keys;
  residue_names = residue_names;
  residue_marks = residue_marks;
  atom_keys = atom_keys;
  atom_names = atom_names;
  elements = elements;
  positions = positions;
  occupancies = occupancies;
}

-- those of lent records, with the names of the chains; while rows are read the HETATM marks stand where the categories will
abbrev pub records_now : List ℕ → ResiduesMut → AtomsMut → Records
records_now chains r a = records_of chains r.keys.now r.names.now r.categories.now a.keys.now a.names.now a.elements.now a.positions.now a.occupancies.now

-- the records of the lent slices; while rows are read the HETATM marks stand where the categories will
abbrev pub records_in : Lent → Records
records_in l =
    records_of l.chains l.residue_keys l.residue_names l.residue_categories l.atom_keys l.atom_names l.elements l.positions l.occupancies

-- how many records the counts tell of
abbrev pub sizes_of : Counts → Room
sizes_of c = record { chains = c.chains; residues = c.residues; atoms = c.atoms }

-- the room is within the sizes of document 01, and every slice has it
pub record Within (room : Room) (r : Records) : Type 0 where
  pub sizes : (room.chains ≤ 4096) × (room.residues ≤ 65536) × (room.atoms ≤ 1048576)
  pub chains : room.chains ≤ length r.chains
  pub residues : (room.residues ≤ length r.residue_keys) × (room.residues ≤ length r.residue_names) × (room.residues ≤ length r.residue_marks)
  pub atoms : (room.atoms ≤ length r.atom_keys) × (room.atoms ≤ length r.atom_names) × (room.atoms ≤ length r.elements)
      × (room.atoms ≤ length r.positions) × (room.atoms ≤ length r.occupancies)

-- no slice has become longer or shorter
pub record SameLengths (r after : Records) : Type 0 where
  pub chains : length after.chains ≡ length r.chains
  pub residue_keys : length after.residue_keys ≡ length r.residue_keys
  pub residue_names : length after.residue_names ≡ length r.residue_names
  pub residue_marks : length after.residue_marks ≡ length r.residue_marks
  pub atom_keys : length after.atom_keys ≡ length r.atom_keys
  pub atom_names : length after.atom_names ≡ length r.atom_names
  pub elements : length after.elements ≡ length r.elements
  pub positions : length after.positions ≡ length r.positions
  pub occupancies : length after.occupancies ≡ length r.occupancies

-- ---- the fields

-- the first n entries of a slice are a field of the entries of m
abbrev pub Field : {W A : Type 0} → (Entry W → A) → List A → ℕ → Map W → Type 0
Field field l n m = take n l ≡ map field m

pub record HoldsChains (chains : List ℕ) (n : ℕ) (l : List ℕ) : Type 0 where
  pub many : n ≡ length l
  pub distinct : Distinct l
  pub names_held : take n chains ≡ l

pub record HoldsResidues (keys names marks : List ℕ) (n : ℕ) (m : Map Residue) : Type 0 where
  pub many : n ≡ length m
  pub ascending : Ascending m
  pub keys_held : Field (λ e. e.key) keys n m
  pub names_held : Field (λ e. e.value.name) names n m
  pub marks_held : Field (λ e. count e.value.hetatm) marks n m

pub record HoldsAtoms (keys names elements : List ℕ) (positions : List (List Float)) (occupancies : List Float) (n : ℕ) (m : Map Atom) : Type 0 where
  pub many : n ≡ length m
  pub ascending : Ascending m
  pub keys_held : Field (λ e. key_part e.key) keys n m
  pub names_held : Field (λ e. name_part e.key) names n m
  pub elements_held : Field (λ e. e.value.element) elements n m
  pub positions_held : Field (λ e. coordinates e.value.position) positions n m
  pub occupancies_held : Field (λ e. e.value.occupancy) occupancies n m

-- the slices and the counts are those of the model, which is within the room
pub record Holds (r : Records) (room : Room) (c : Counts) (st : State) : Type 0 where
  pub within : Within room r
  pub chains : HoldsChains r.chains c.chains st.chains
  pub residues : HoldsResidues r.residue_keys r.residue_names r.residue_marks c.residues st.residues
  pub atoms : HoldsAtoms r.atom_keys r.atom_names r.elements r.positions r.occupancies c.atoms st.atoms
  pub fits : Fits room st
  pub rows : c.rows ≡ st.rows
  pub skipped : c.skipped ≡ st.skipped
  pub outdone : c.outdone ≡ st.outdone
  pub assumed : c.assumed ≡ st.assumed
  -- no row is counted twice
  pub skipped_rows : st.skipped ≤ st.rows
  pub outdone_rows : st.outdone ≤ st.rows
  pub assumed_rows : st.assumed ≤ st.rows
