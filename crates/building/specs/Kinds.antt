-- The two kinds of record in their slices: what the slices have in an area, whether they have the room, and that they stay as long.
use Rattle.std.specs.Prelude.{◌≡◌, List, map, cond, ℕ, ◌≤◌, Float, ltb, length, get_or, set, Result}
use Rattle.std.specs.Float.Ieee.{lt}
use Rattle.std.specs.Float.{nan}
use Rattle.field_slices.specs.Clearing.{zero_float, zero_point}
use Rattle.field_slices.specs.Places.{pairs, below}
use Rattle.gapped_slices.specs.Areas.{Lies, entries_in, PutsIn}
use Rattle.gapped_slices.specs.Spots.{Spotted}
use Rattle.gapped_slices.specs.declared.areas.Area.{Area}
use Rattle.model.specs.Finished.{key_part, name_part}
use Rattle.model.specs.Fold.{Residue, Atom}
use Rattle.model.specs.Lent.{coordinates}
use Rattle.model.specs.LentNow.{SameResidues}
use Rattle.model.specs.declared.lent.AtomsMut.{AtomsMut}
use Rattle.model.specs.declared.lent.ResiduesMut.{ResiduesMut}
use Rattle.model.specs.Lists.{count}
use Rattle.model.specs.Map.{Map}
use Rattle.building.specs.declared.atoms.AtomEntry.{AtomEntry}
use Rattle.building.specs.declared.residues.ResidueEntry.{ResidueEntry}
use Rattle.building.specs.declared.stores.Store.{Store}
use Rattle.building.specs.Holds.{HoldsResidues, HoldsAtoms}
use Rattle.building.specs.Stores.{Seeks}

-- ---- residues

pub record ResidueSlices : Type 0 where
  pub keys : List ℕ
  pub names : List ℕ
  pub marks : List ℕ

abbrev pub residues_of : List ℕ → List ℕ → List ℕ → ResidueSlices
residues_of keys names marks = record { keys = keys; names = names; marks = marks }

-- a residue by value, at an index of the slices, zeros where there is none
abbrev pub residue_entry_at : ResidueSlices → ℕ → ResidueEntry
residue_entry_at r i = record { key = get_or r.keys i 0; name = get_or r.names i 0; mark = get_or r.marks i 0 }

-- it has what a row says of its residue
pub record IsResidue (e : ResidueEntry) (v : Residue) : Type 0 where
  pub name : e.name ≡ v.name
  pub mark : e.mark ≡ count v.hetatm

-- those of lent records; while rows are read the HETATM marks stand where the categories will
abbrev pub residues_now : ResiduesMut → ResidueSlices
residues_now r = residues_of r.keys.now r.names.now r.categories.now

-- the same slices, and standard codes and positions as they were
abbrev pub KeepsResidues : ResiduesMut → ResiduesMut → Type 0
KeepsResidues r after = SameResidues r after × (after.codes.now ≡ r.codes.now) × (after.positions.now ≡ r.positions.now)

pub record ResiduesIn (r : ResidueSlices) (a : Area) (m : Map Residue) : Type 0 where
  pub keys_held : entries_in a r.keys ≡ map (λ e. e.key) m
  pub names_held : entries_in a r.names ≡ map (λ e. e.value.name) m
  pub marks_held : entries_in a r.marks ≡ map (λ e. count e.value.hetatm) m

-- those in the front of the slices
abbrev pub ResiduesFirst : ResidueSlices → Map Residue → Type 0
ResiduesFirst r m = HoldsResidues r.keys r.names r.marks (length m) m

pub record ResiduesLong (r : ResidueSlices) (room : ℕ) : Type 0 where
  pub keys : room ≤ length r.keys
  pub names : room ≤ length r.names
  pub marks : room ≤ length r.marks

pub record ResiduesSame (r after : ResidueSlices) : Type 0 where
  pub keys : length after.keys ≡ length r.keys
  pub names : length after.names ≡ length r.names
  pub marks : length after.marks ≡ length r.marks

-- what a look for a residue says in an area, and in both areas of a store
abbrev pub ResidueSpotted : ResidueSlices → Area → ℕ → Result ℕ ℕ → Type 0
ResidueSpotted r a key spot = Lies a (length r.keys) → Spotted ltb (entries_in a r.keys) key spot

abbrev pub ResidueSought : ResidueSlices → Store → ℕ → Result ℕ ℕ → Type 0
ResidueSought r s key sought =
    Lies s.main (length r.keys) → Lies s.pocket (length r.keys) → Seeks ltb (entries_in s.main r.keys) (entries_in s.pocket r.keys) key s sought

-- one more in an area, at this index
pub record PutsResidue (a : Area) (at : ℕ) (e : ResidueEntry) (r after : ResidueSlices) : Type 0 where
  pub keys : PutsIn a at e.key r.keys after.keys
  pub names : PutsIn a at e.name r.names after.names
  pub marks : PutsIn a at e.mark r.marks after.marks

-- ---- atoms

pub record AtomSlices : Type 0 where
  pub keys : List ℕ
  pub names : List ℕ
  pub elements : List ℕ
  pub positions : List (List Float)
  pub occupancies : List Float

abbrev pub atoms_of : List ℕ → List ℕ → List ℕ → List (List Float) → List Float → AtomSlices
atoms_of keys names elements positions occupancies = record { keys = keys; names = names; elements = elements; positions = positions; occupancies = occupancies }

-- those of lent records
abbrev pub atoms_now : AtomsMut → AtomSlices
atoms_now a = atoms_of a.keys.now a.names.now a.elements.now a.positions.now a.occupancies.now

-- an atom by value, at an index of the slices, zeros where there is none
abbrev pub atom_entry_at : AtomSlices → ℕ → AtomEntry
atom_entry_at r i = record {
  key = get_or r.keys i 0;
  name = get_or r.names i 0;
  element = get_or r.elements i 0;
  position = get_or r.positions i zero_point;
  occupancy = get_or r.occupancies i zero_float;
}

-- it has what a row says of its atom
pub record IsAtom (e : AtomEntry) (v : Atom) : Type 0 where
  pub element : e.element ≡ v.element
  pub position : e.position ≡ coordinates v.position
  pub occupancy : e.occupancy ≡ v.occupancy

pub record AtomsIn (r : AtomSlices) (a : Area) (m : Map Atom) : Type 0 where
  pub keys_held : entries_in a r.keys ≡ map (λ e. key_part e.key) m
  pub names_held : entries_in a r.names ≡ map (λ e. name_part e.key) m
  pub elements_held : entries_in a r.elements ≡ map (λ e. e.value.element) m
  pub positions_held : entries_in a r.positions ≡ map (λ e. coordinates e.value.position) m
  pub occupancies_held : entries_in a r.occupancies ≡ map (λ e. e.value.occupancy) m

abbrev pub AtomsFirst : AtomSlices → Map Atom → Type 0
AtomsFirst r m = HoldsAtoms r.keys r.names r.elements r.positions r.occupancies (length m) m

pub record AtomsLong (r : AtomSlices) (room : ℕ) : Type 0 where
  pub keys : room ≤ length r.keys
  pub names : room ≤ length r.names
  pub elements : room ≤ length r.elements
  pub positions : room ≤ length r.positions
  pub occupancies : room ≤ length r.occupancies

pub record AtomsSame (r after : AtomSlices) : Type 0 where
  pub keys : length after.keys ≡ length r.keys
  pub names : length after.names ≡ length r.names
  pub elements : length after.elements ≡ length r.elements
  pub positions : length after.positions ≡ length r.positions
  pub occupancies : length after.occupancies ≡ length r.occupancies

-- the keys and names of an area side by side; what a look for an atom says among them, and in both areas of a store
abbrev pub both_in : AtomSlices → Area → List (ℕ × ℕ)
both_in r a = pairs (entries_in a r.keys) (entries_in a r.names)

abbrev pub AtomSpotted : AtomSlices → Area → ℕ → ℕ → Result ℕ ℕ → Type 0
AtomSpotted r a key name spot = Lies a (length r.keys) → Lies a (length r.names) → Spotted below (both_in r a) (key, name) spot

abbrev pub AtomSought : AtomSlices → Store → ℕ → ℕ → Result ℕ ℕ → Type 0
AtomSought r s key name sought =
    Lies s.main (length r.keys) → Lies s.main (length r.names) → Lies s.pocket (length r.keys) → Lies s.pocket (length r.names)
    → Seeks below (both_in r s.main) (both_in r s.pocket) (key, name) s sought

-- one more in an area, at this index
pub record PutsAtom (a : Area) (at : ℕ) (e : AtomEntry) (r after : AtomSlices) : Type 0 where
  pub keys : PutsIn a at e.key r.keys after.keys
  pub names : PutsIn a at e.name r.names after.names
  pub elements : PutsIn a at e.element r.elements after.elements
  pub positions : PutsIn a at e.position r.positions after.positions
  pub occupancies : PutsIn a at e.occupancy r.occupancies after.occupancies

-- the one at an index of the slices is replaced where its occupancy is strictly less
pub record ReplacesAtom (at : ℕ) (e : AtomEntry) (r after : AtomSlices) : Type 0 where
  pub keys : after.keys ≡ r.keys
  pub names : after.names ≡ r.names
  pub elements : after.elements ≡ cond (lt (get_or r.occupancies at nan) e.occupancy) (set r.elements at e.element) r.elements
  pub positions : after.positions ≡ cond (lt (get_or r.occupancies at nan) e.occupancy) (set r.positions at e.position) r.positions
  pub occupancies : after.occupancies ≡ cond (lt (get_or r.occupancies at nan) e.occupancy) (set r.occupancies at e.occupancy) r.occupancies
