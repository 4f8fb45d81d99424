-- What a well-formed model in lent slices has that its walks lean on.
use mathlib.Core.Path.{◌≡◌, sym, ap, ◌∙◌}
use mathlib.Core.Bool.{Bool, true, ◌&&◌}
use mathlib.Core.List.{List, map}
use Prim.Native.Nat.{ℕ, ◌≤◌, ◌<◌, min}
use native.Mathlib.Omega.{arith}
use lib.Dec.{leb}
use lib.ListN.{length}
use borrow.Author.Tests.{leb-true}
use Rattle.ascii.specs.Lists.{every}
use Rattle.names.specs.Places.{ascends}
use Rattle.model.specs.Keys.{chain_part, atom_place}
use Rattle.model.specs.Lent.{Lent, room_of, residue_in, atom_in, list_from, model_in}
use Rattle.model.specs.Records.{Model}
use Rattle.model.specs.WellFormed.{same_list, runs_of, is_name, is_near, chains_well, residue_well, atom_well, in_runs, in_order, well_formed, counts_fit, well_formed_in}
use Rattle.model.proofs.ListLaws.{left_of, right_of}
use Rattle.model.specs.declared.room.Room.{Room}
use Rattle.wellformed.specs.Slices.{entries, residues_ascend, Within}
use Rattle.wellformed.proofs.FromLaws.{rest, rest_all}
use Rattle.wellformed.proofs.SliceLaws.{map_from}
use Rattle.wellformed.proofs.WholeModel.{within_all}
use Rattle.writer.proofs.ListsByIndex.{from_every}

least : (n a b : ℕ) → n ≤ min a b → n ≤ a
least n a b h = omega arith

module _ (l : Lent) (counts : Room) (well : well_formed_in l counts ≡ true) where
  abbrev model : Model
  model = model_in l counts

  -- ---- the counts
  fit : counts_fit l counts ≡ true
  unfolding well_formed_in
  fit = left_of (counts_fit l counts) (well_formed model) well

  pub counted : Within l counts
  counted = within_all l counts fit

  pub few_residues : counts.residues ≤ 65536
  unfolding counts_fit room_of
  few_residues =
      let both = left_of (leb counts.chains (room_of l).chains && leb counts.residues (room_of l).residues) (leb counts.atoms (room_of l).atoms) fit in
      let h = leb-true counts.residues (room_of l).residues (right_of (leb counts.chains (room_of l).chains) (leb counts.residues (room_of l).residues) both) in
      least counts.residues 65536 (min (length l.residue_keys) (min (length l.residue_names) (min (length l.residue_codes) (min (length l.residue_categories) (length l.residue_positions))))) h

  pub few_atoms : counts.atoms ≤ 1048576
  unfolding counts_fit room_of
  few_atoms =
      let h = leb-true counts.atoms (room_of l).atoms (right_of (leb counts.chains (room_of l).chains && leb counts.residues (room_of l).residues) (leb counts.atoms (room_of l).atoms) fit) in
      least counts.atoms 1048576 (min (length l.atom_keys) (min (length l.atom_names) (min (length l.elements) (min (length l.positions) (length l.occupancies))))) h

  -- ---- the rules
  abbrev each : Bool
  each = every (residue_well model) model.residues

  abbrev near : Bool
  near = every atom_well model.atoms

  whole : well_formed model ≡ true
  unfolding well_formed_in
  whole = right_of (counts_fit l counts) (well_formed model) well

  ordered : (chains_well model.chains && in_runs model && in_order model) ≡ true
  unfolding well_formed
  ordered =
      left_of (chains_well model.chains && in_runs model && in_order model) each
      (left_of (chains_well model.chains && in_runs model && in_order model && each) near whole)

  -- the atoms stand in runs in the order of the residues
  pub runs : same_list (runs_of (rest (entries l.atom_keys) counts.atoms 0)) (rest (entries l.residue_keys) counts.residues 0) ≡ true
  unfolding in_runs model_in
  runs =
      let h = right_of (chains_well model.chains) (in_runs model) (left_of (chains_well model.chains && in_runs model) (in_order model) ordered) in
      ap (λ (m : List ℕ). same_list (runs_of m) (rest (entries l.residue_keys) counts.residues 0)) (sym (map_from (λ a. a.key) (atom_in l) 0 counts.atoms ∙ rest_all (entries l.atom_keys) counts.atoms))
      ∙ ap (same_list (runs_of (map (λ a. a.key) model.atoms))) (sym (map_from (λ r. r.key) (residue_in l) 0 counts.residues ∙ rest_all (entries l.residue_keys) counts.residues))
      ∙ right_of (same_list (runs_of (map (λ r. chain_part r.key) model.residues)) (list_from (λ i. i) 0 (length model.chains)))
      (same_list (runs_of (map (λ a. a.key) model.atoms)) (map (λ r. r.key) model.residues))
      h

  -- the residues ascend
  pub keyed : ascends (map (λ r. r.key) (list_from (residue_in l) 0 counts.residues)) ≡ true
  unfolding in_order model_in
  keyed =
      left_of (ascends (map (λ r. r.key) model.residues)) (ascends (map (λ a. atom_place a.key a.name) model.atoms))
      (right_of (chains_well model.chains && in_runs model) (in_order model) ordered)

  pub ascending : residues_ascend l.residue_keys counts.residues ≡ true
  ascending = sym (ap ascends (map_from (λ r. r.key) (residue_in l) 0 counts.residues)) ∙ keyed

  -- each atom is near
  pub near_at : (i : ℕ) → i < counts.atoms → is_near (atom_in l i).position ≡ true
  unfolding well_formed model_in atom_well
  near_at i h =
      right_of (is_name (atom_in l i).name && leb (atom_in l i).element 118) (is_near (atom_in l i).position)
      (from_every (atom_in l) atom_well 0 counts.atoms i (right_of (chains_well model.chains && in_runs model && in_order model && each) near whole) (omega arith) (omega arith))
