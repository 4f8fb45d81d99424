-- Document 01's rules for a model in slices, each over the slices that it is about and how many of their entries count.
use Rattle.std.specs.Prelude.{Bool, not, ◌&&◌, List, ℕ, ◌≤◌, eqb, leb, Float, length, get_or, take}
use Rattle.ascii.specs.Bytes.{bytes}
use Rattle.names.specs.Packing.{packed}
use Rattle.names.specs.Places.{ascends}
use Rattle.field_slices.specs.Clearing.{zero_point}
use Rattle.model.specs.declared.room.Room.{Room}
use Rattle.model.specs.declared.classes.Class.{Class}
use Rattle.model.specs.Keys.{atom_place, chain_part, code_part}
use Rattle.model.specs.Lent.{Lent, point_of, list_from}
use Rattle.ascii.specs.Lists.{every}
use Rattle.model.specs.WellFormed.{same_list, runs_of, is_name, is_code, is_near, chains_well}
use Rattle.wellformed.specs.Walks.{Standing, classed_from, stands_from}

-- what stands at an index of a slice
abbrev pub entries : List ℕ → ℕ → ℕ
entries l i = get_or l i 0

-- ---- one record

abbrev pub is_chain_name : ℕ → Bool
is_chain_name name = is_name name && not (eqb name (packed (bytes ".")))

abbrev pub is_residue_named : ℕ → ℕ → Bool
is_residue_named key name = is_name name && is_code (code_part key)

abbrev pub is_atom_well : ℕ → ℕ → List Float → Bool
is_atom_well name element position = is_name name && leb element 118 && is_near (point_of position)

-- a residue's key and class, by its index
abbrev pub classed_in : Lent → ℕ → ℕ × Class
classed_in l i =
    (entries l.residue_keys i, record { name = entries l.residue_names i; code = entries l.residue_codes i; category = entries l.residue_categories i })

abbrev pub standing_in : List ℕ → List ℕ → List ℕ → ℕ → Standing
standing_in keys codes positions i = record { key = entries keys i; code = entries codes i; position = entries positions i }

-- ---- all of them

-- each chain has residues, in the order of the chains
abbrev pub chains_run : List ℕ → ℕ → ℕ → Bool
chains_run residue_keys chains residues = same_list (runs_of (list_from (λ i. chain_part (entries residue_keys i)) 0 residues)) (list_from (λ i. i) 0 chains)

-- each residue has atoms, in the order of the residues
abbrev pub residues_run : List ℕ → List ℕ → ℕ → ℕ → Bool
residues_run residue_keys atom_keys residues atoms = same_list (runs_of (list_from (entries atom_keys) 0 atoms)) (list_from (entries residue_keys) 0 residues)

abbrev pub residues_ascend : List ℕ → ℕ → Bool
residues_ascend keys residues = ascends (list_from (entries keys) 0 residues)

abbrev pub atoms_ascend : List ℕ → List ℕ → ℕ → Bool
atoms_ascend keys names atoms = ascends (list_from (λ i. atom_place (entries keys i) (entries names i)) 0 atoms)

abbrev pub residues_named : List ℕ → List ℕ → ℕ → Bool
residues_named keys names residues = every (λ i. is_residue_named (entries keys i) (entries names i)) (list_from (λ i. i) 0 residues)

abbrev pub residues_classed : Lent → Room → Bool
residues_classed l counts = classed_from (take counts.atoms l.atom_keys) 0 (list_from (classed_in l) 0 counts.residues)

abbrev pub residues_stand : List ℕ → List ℕ → List ℕ → ℕ → Bool
residues_stand keys codes positions residues = stands_from 0 (list_from (standing_in keys codes positions) 0 residues)

abbrev pub residues_well : Lent → Room → Bool
residues_well l counts =
    residues_named l.residue_keys l.residue_names counts.residues
    && residues_classed l counts
    && residues_stand l.residue_keys l.residue_codes l.residue_positions counts.residues

abbrev pub atoms_well : List ℕ → List ℕ → List (List Float) → ℕ → Bool
atoms_well names elements positions atoms = every (λ i. is_atom_well (entries names i) (entries elements i) (get_or positions i zero_point)) (list_from (λ i. i) 0 atoms)

-- ---- the whole, where the counts are within the slices

pub record Within (l : Lent) (counts : Room) : Type 0 where
  pub of_chains : counts.chains ≤ length l.chains
  pub of_residue_keys : counts.residues ≤ length l.residue_keys
  pub of_residue_names : counts.residues ≤ length l.residue_names
  pub of_residue_codes : counts.residues ≤ length l.residue_codes
  pub of_residue_categories : counts.residues ≤ length l.residue_categories
  pub of_residue_positions : counts.residues ≤ length l.residue_positions
  pub of_atom_keys : counts.atoms ≤ length l.atom_keys
  pub of_atom_names : counts.atoms ≤ length l.atom_names
  pub of_elements : counts.atoms ≤ length l.elements
  pub of_positions : counts.atoms ≤ length l.positions

abbrev pub runs_well : Lent → Room → Bool
runs_well l counts = chains_run l.residue_keys counts.chains counts.residues && residues_run l.residue_keys l.atom_keys counts.residues counts.atoms

abbrev pub order_well : Lent → Room → Bool
order_well l counts = residues_ascend l.residue_keys counts.residues && atoms_ascend l.atom_keys l.atom_names counts.atoms

abbrev pub records_well : Lent → Room → Bool
records_well l counts =
    chains_well (take counts.chains l.chains)
    && runs_well l counts
    && order_well l counts
    && atoms_well l.atom_names l.elements l.positions counts.atoms
    && residues_well l counts
