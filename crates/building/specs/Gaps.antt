-- The model while rows are read: residues and atoms each in the two areas of their store, and the counts.
use Rattle.std.specs.Prelude.{◌≡◌, ◌≤◌, length}
use Rattle.model.specs.Fold.{State}
use Rattle.model.specs.Room.{Fits}
use Rattle.model.specs.declared.room.Room.{Room}
use Rattle.building.specs.declared.held.Held.{Held}
use Rattle.building.specs.declared.sites.Counts.{Counts}
use Rattle.building.specs.Holds.{Records, Within, SameLengths, HoldsChains, Holds}
use Rattle.building.specs.Kinds.{ResidueSlices, residues_of, ResiduesIn, AtomSlices, atoms_of, AtomsIn}
use Rattle.building.specs.Stores.{no_store, Apart}

-- before the first row
abbrev pub none_held : Held
none_held = record {
  counts = record { chains = 0; residues = 0; atoms = 0; rows = 0; skipped = 0; outdone = 0; assumed = 0 };
  residues = no_store;
  atoms = no_store;
}

-- the slices of each kind
abbrev pub residues_in : Records → ResidueSlices
residues_in r = residues_of r.residue_keys r.residue_names r.residue_marks

abbrev pub atoms_in : Records → AtomSlices
atoms_in r = atoms_of r.atom_keys r.atom_names r.elements r.positions r.occupancies

-- the counts are the model's, and no row is counted twice
pub record Counted (c : Counts) (st : State) : Type 0 where
  pub residues : c.residues ≡ length st.residues
  pub atoms : c.atoms ≡ length st.atoms
  pub rows : c.rows ≡ st.rows
  pub skipped : c.skipped ≡ st.skipped
  pub outdone : c.outdone ≡ st.outdone
  pub assumed : c.assumed ≡ st.assumed
  pub skipped_rows : st.skipped ≤ st.rows
  pub outdone_rows : st.outdone ≤ st.rows
  pub assumed_rows : st.assumed ≤ st.rows

-- the slices and the counts are those of the model, which is within the room
pub record HoldsApart (r : Records) (room : Room) (h : Held) (st : State) : Type 0 where
  pub within : Within room r
  pub chains : HoldsChains r.chains h.counts.chains st.chains
  pub residues : Apart (ResiduesIn (residues_in r)) room.residues h.residues st.residues
  pub atoms : Apart (AtomsIn (atoms_in r)) room.atoms h.atoms st.atoms
  pub fits : Fits room st
  pub counted : Counted h.counts st

-- after the last row they hold it from the front
pub record Gathers (r : Records) (h : Held) (after : Records) : Type 0 where
  pub lengths : SameLengths r after
  pub model : (room : Room) (st : State) → HoldsApart r room h st → Holds after room h.counts st
