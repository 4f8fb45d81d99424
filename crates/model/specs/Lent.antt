-- The lent slices, one to a field, and the model in them: chains, residues and atoms from the front, zeros past the counts.
use Rattle.std.specs.Prelude.{List, [], ◌∷◌, ◌++◌, map, ℕ, zero, suc, ◌-◌, min, Float, length, get_or, take, replicate}
use denote.Triple.Both.{Both}
use Rattle.rows.specs.declared.rules.Point3.{Point3}
use Rattle.field_slices.specs.Clearing.{zero_float, zero_point}
use Rattle.field_slices.specs.Slice.{Slice}
use Rattle.model.specs.declared.records.Records.{Records}
use Rattle.model.specs.declared.room.Room.{Room}
use Rattle.model.specs.Records.{ResidueRecord, AtomRecord, Model}

pub record Lent : Type 0 where
  pub chains : List ℕ
  pub residue_keys : List ℕ
  pub residue_names : List ℕ
  pub residue_codes : List ℕ
  pub residue_categories : List ℕ
  pub residue_positions : List ℕ
  pub atom_keys : List ℕ
  pub atom_names : List ℕ
  pub elements : List ℕ
  pub positions : List (List Float)
  pub occupancies : List Float

abbrev pub lent_of : List ℕ → List ℕ → List ℕ → List ℕ → List ℕ → List ℕ → List ℕ → List ℕ → List ℕ → List (List Float) → List Float → Lent
lent_of chains residue_keys residue_names residue_codes residue_categories residue_positions atom_keys atom_names elements positions occupancies = record {
  chains = chains;
  residue_keys = residue_keys;
  residue_names = residue_names;
  residue_codes = residue_codes;
  residue_categories = residue_categories;
  residue_positions = residue_positions;
  atom_keys = atom_keys;
  atom_names = atom_names;
  elements = elements;
  positions = positions;
  occupancies = occupancies;
}

-- ---- the same of a function's parameters

-- at its entry and at its exit, with the names of the chains at both
abbrev pub lent_by : Both (List ℕ) (List ℕ) → Slice ℕ → Slice ℕ → Slice ℕ → Slice ℕ → Slice ℕ → Slice ℕ → Slice ℕ → Slice ℕ → Slice (List Float) → Slice Float → Both Lent Lent
lent_by chains residue_keys residue_names residue_codes residue_categories residue_positions atom_keys atom_names elements positions occupancies = record {
  entry = lent_of chains.entry residue_keys.entry.now residue_names.entry.now residue_codes.entry.now residue_categories.entry.now residue_positions.entry.now atom_keys.entry.now atom_names.entry.now elements.entry.now positions.entry.now occupancies.entry.now;
  exit = lent_of chains.exit residue_keys.exit.now residue_names.exit.now residue_codes.exit.now residue_categories.exit.now residue_positions.exit.now atom_keys.exit.now atom_names.exit.now elements.exit.now positions.exit.now occupancies.exit.now;
}

-- of records that are passed by value
abbrev pub lent_in : Records → Lent
lent_in r = lent_of r.chains.now r.residue_keys.now r.residue_names.now r.residue_codes.now r.residue_categories.now r.residue_positions.now r.atom_keys.now r.atom_names.now r.elements.now r.positions.now r.occupancies.now

-- ---- the room in them

-- the sizes of document 01, and no more than the shortest slice has: by the slices' lengths, and of the slices
abbrev pub room_by : ℕ → ℕ → ℕ → ℕ → ℕ → ℕ → ℕ → ℕ → ℕ → ℕ → ℕ → Room
room_by chains residue_keys residue_names residue_codes residue_categories residue_positions atom_keys atom_names elements positions occupancies = record {
  chains = min 4096 chains;
  residues = min 65536 (min residue_keys (min residue_names (min residue_codes (min residue_categories residue_positions))));
  atoms = min 1048576 (min atom_keys (min atom_names (min elements (min positions occupancies))));
}

unfoldable pub room_of : Lent → Room
room_of l =
    room_by
    (length l.chains)
    (length l.residue_keys)
    (length l.residue_names)
    (length l.residue_codes)
    (length l.residue_categories)
    (length l.residue_positions)
    (length l.atom_keys)
    (length l.atom_names)
    (length l.elements)
    (length l.positions)
    (length l.occupancies)

-- no room, and no records
abbrev pub no_records : Room
no_records = record { chains = 0; residues = 0; atoms = 0 }

-- ---- the model in the slices

abbrev pub coordinates : Point3 → List Float
coordinates p = p.x ∷ p.y ∷ p.z ∷ []

abbrev pub point_of : List Float → Point3
point_of l = record { x = get_or l 0 zero_float; y = get_or l 1 zero_float; z = get_or l 2 zero_float }

-- the records at an index of their slices
abbrev pub residue_from : List ℕ → List ℕ → List ℕ → List ℕ → List ℕ → ℕ → ResidueRecord
residue_from keys names codes categories positions i = record {
  key = get_or keys i 0;
  name = get_or names i 0;
  code = get_or codes i 0;
  category = get_or categories i 0;
  position = get_or positions i 0;
}

abbrev pub residue_in : Lent → ℕ → ResidueRecord
residue_in l = residue_from l.residue_keys l.residue_names l.residue_codes l.residue_categories l.residue_positions

abbrev pub atom_from : List ℕ → List ℕ → List ℕ → List (List Float) → List Float → ℕ → AtomRecord
atom_from keys names elements positions occupancies i = record {
  key = get_or keys i 0;
  name = get_or names i 0;
  element = get_or elements i 0;
  position = point_of (get_or positions i zero_point);
  occupancy = get_or occupancies i zero_float;
}

abbrev pub atom_in : Lent → ℕ → AtomRecord
atom_in l = atom_from l.atom_keys l.atom_names l.elements l.positions l.occupancies

-- what stands at i, at the next, and so on: n of them
unfoldable pub list_from : {A : Type 0} → (ℕ → A) → ℕ → ℕ → List A
list_from at i zero = []
list_from at i (suc n) = at i ∷ list_from at (suc i) n

-- so many chains, residues and atoms
unfoldable pub model_in : Lent → Room → Model
model_in l counts = record {
  chains = take counts.chains l.chains;
  residues = list_from (residue_in l) 0 counts.residues;
  atoms = list_from (atom_in l) 0 counts.atoms;
}

-- how many a model has
abbrev pub sizes_in : Model → Room
sizes_in m = record { chains = length m.chains; residues = length m.residues; atoms = length m.atoms }

-- ---- the slices of a model

-- a list in a slice of n entries, zeros after it
unfoldable pub padded : {A : Type 0} → A → ℕ → List A → List A
padded z n l = l ++ replicate (n - length l) z

-- the slices, as long as they are, with a model in them
unfoldable pub holding : Lent → Model → Lent
holding l m = record {
  chains = padded 0 (length l.chains) m.chains;
  residue_keys = padded 0 (length l.residue_keys) (map (λ r. r.key) m.residues);
  residue_names = padded 0 (length l.residue_names) (map (λ r. r.name) m.residues);
  residue_codes = padded 0 (length l.residue_codes) (map (λ r. r.code) m.residues);
  residue_categories = padded 0 (length l.residue_categories) (map (λ r. r.category) m.residues);
  residue_positions = padded 0 (length l.residue_positions) (map (λ r. r.position) m.residues);
  atom_keys = padded 0 (length l.atom_keys) (map (λ a. a.key) m.atoms);
  atom_names = padded 0 (length l.atom_names) (map (λ a. a.name) m.atoms);
  elements = padded 0 (length l.elements) (map (λ a. a.element) m.atoms);
  positions = padded zero_point (length l.positions) (map (λ a. coordinates a.position) m.atoms);
  occupancies = padded zero_float (length l.occupancies) (map (λ a. a.occupancy) m.atoms);
}

abbrev pub empty_model : Model
empty_model = record { chains = []; residues = []; atoms = [] }
