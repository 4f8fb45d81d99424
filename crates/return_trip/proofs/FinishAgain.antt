-- What a well-formed model's rows leave is finished as that model: its names lead to themselves, no residue is unknown, since one that is not standard is written
-- HETATM, and categories and positions are as ruled already.
use mathlib.Core.Path.{◌≡◌, refl, sym, ap, ◌∙◌}
use mathlib.Core.Bool.{Bool, false, not, ◌&&◌, cond}
use mathlib.Core.List.{List, [], ◌∷◌, map, map-map}
use mathlib.Core.Option.{none, some}
use Prim.Native.Nat.{ℕ, ◌^◌, ◌<◌}
use lib.Arith.{digits_div, digits_mod}
use lib.Dec.{eqb, ltb}
use lib.ListN.{length, length-map}
use Rattle.std.specs.Prelude.{Option, Some, None}
use Rattle.names.specs.Polymers.{polymer_of}
use Rattle.names.specs.Residues.{residues, residue_of}
use Rattle.names.specs.Table.{resolve_of}
use Rattle.names.specs.declared.table.Resolved.{Resolved}
use Rattle.model.specs.declared.classes.Class.{Class}
use Rattle.model.specs.Classes.{class_by, class_of, is_resolved, is_lone, is_unknown}
use Rattle.model.specs.Finished.{known, atom_record, with_class, classified, positioned, all_positioned, further, unknown_in, model_from, unless, finished_of}
use Rattle.model.specs.Lists.{filter, All}
use Rattle.model.specs.Records.{ResidueRecord, AtomRecord, Model}
use Rattle.model.specs.Termini.{besides, is_polymer, is_first, is_last, ruled_position}
use Rattle.model.proofs.ListLaws.{all_of, any_map, filter_map}
use Rattle.wellformed.proofs.NameLaws.{name_below}
use Rattle.return_trip.specs.Returned.{returned_atom, returned}
use Rattle.return_trip.proofs.FoldAgain.{residue_entry, atom_entry, state_in, same_made}
use Rattle.return_trip.proofs.WellFormedModel.{class_in, ResidueSo, Well}

-- a residue of no standard code is no polymer
no_polymer : is_polymer 0 ≡ false
unfolding is_polymer polymer_of residues residue_of
no_polymer = refl

-- before its position is ruled
abbrev unplaced : ResidueRecord → ResidueRecord
unplaced r = record { key = r.key; name = r.name; code = r.code; category = r.category; position = 0 }

module _ (residues : List ResidueRecord) (r : ResidueRecord) where
  first_unplaced : is_first (map unplaced residues) (unplaced r) ≡ is_first residues r
  unfolding is_first
  first_unplaced = ap not (any_map unplaced (λ t. besides r t && ltb t.key r.key) residues)

  last_unplaced : is_last (map unplaced residues) (unplaced r) ≡ is_last residues r
  unfolding is_last
  last_unplaced = ap not (any_map unplaced (λ t. besides r t && ltb r.key t.key) residues)

  position_unplaced : ruled_position (map unplaced residues) (unplaced r) ≡ ruled_position residues r
  unfolding ruled_position
  position_unplaced = rw (first_unplaced, last_unplaced)

module _ (m : Model) (w : Well m) where
  -- ---- none is unknown
  known_so : (r : ResidueRecord) → ResidueSo m r → is_unknown (residue_entry r).value ≡ false
  unfolding is_unknown class_of
  known_so r so = go (resolve_of r.name) so.class
    where
      go : (t : Option Resolved) → class_by t r.name (is_lone m.atoms r.key) ≡ class_in r → (not (is_resolved t) && not (not (is_polymer r.code))) ≡ false
      go (Some to) e = refl
      go None e = ap (λ (b : Bool). not (not b)) (ap is_polymer (sym (ap (λ (c : Class). c.code) e)) ∙ no_polymer)

  none_unknown : (l : List ResidueRecord) → All (ResidueSo m) l → unknown_in (map residue_entry l) ≡ none
  unfolding unknown_in
  none_unknown [] a = refl
  none_unknown (r ∷ l) a =
      ap (λ (b : Bool). cond b (some 1) (further (unknown_in (map residue_entry l)))) (known_so r a.0) ∙ ap further (none_unknown l a.1)

  -- ---- atoms
  atom_again : (a : AtomRecord) → a.name < 2 ^ 64 → atom_record (atom_entry a) ≡ returned_atom a
  atom_again a h = λ i. record {
    key = digits_div a.key {m = 2 ^ 64} h i;
    name = digits_mod a.key {m = 2 ^ 64} h i;
    element = a.element;
    position = (returned_atom a).position;
    occupancy = (returned_atom a).occupancy;
  }

  atoms_again : map atom_record (map atom_entry m.atoms) ≡ map returned_atom m.atoms
  atoms_again =
      map-map atom_record atom_entry m.atoms
      ∙ same_made (λ a. atom_record (atom_entry a)) returned_atom m.atoms (λ a d. atom_again a (name_below a.name (w.atoms a d).name))

  -- ---- residues
  lone_again : (key : ℕ) → is_lone (map returned_atom m.atoms) key ≡ is_lone m.atoms key
  unfolding is_lone
  lone_again key =
      ap (λ (n : ℕ). eqb n 1)
      (ap length (filter_map returned_atom (λ a. eqb a.key key) m.atoms) ∙ length-map (filter (λ a. eqb a.key key) m.atoms) returned_atom)

  class_again : (r : ResidueRecord) → ResidueSo m r → classified (map returned_atom m.atoms) (residue_entry r) ≡ unplaced r
  class_again r so = ap (λ (b : Bool). with_class r.key (class_of r.name b)) (lone_again r.key) ∙ ap (with_class r.key) so.class

  classes_again : map (classified (map returned_atom m.atoms)) (map residue_entry m.residues) ≡ map unplaced m.residues
  classes_again =
      map-map (classified (map returned_atom m.atoms)) residue_entry m.residues
      ∙ same_made (λ r. classified (map returned_atom m.atoms) (residue_entry r)) unplaced m.residues (λ r d. class_again r (w.residues r d))

  positions_again : all_positioned (map unplaced m.residues) ≡ m.residues
  positions_again =
      map-map (positioned (map unplaced m.residues)) unplaced m.residues
      ∙ same_made (λ r. positioned (map unplaced m.residues) (unplaced r)) (λ r. r) m.residues
      (λ r d. ap (λ (p : ℕ). record { key = r.key; name = r.name; code = r.code; category = r.category; position = p }) (position_unplaced m.residues r ∙ (w.residues r d).position))
      ∙ all_same m.residues
    where
      all_same : (l : List ResidueRecord) → map (λ r. r) l ≡ l
      all_same [] = refl
      all_same (r ∷ l) = ap (λ (t : List ResidueRecord). r ∷ t) (all_same l)

  model_again : model_from (state_in m) ≡ returned m
  model_again =
      (λ i. record { chains = m.chains; residues = all_positioned (map (classified (atoms_again i)) (map residue_entry m.residues)); atoms = atoms_again i })
      ∙ ap (λ (l : List ResidueRecord). record { chains = m.chains; residues = l; atoms = map returned_atom m.atoms }) (ap all_positioned classes_again ∙ positions_again)

  -- ---- the theorem
  pub finish_again : finished_of (state_in m) ≡ known (returned m)
  unfolding finished_of
  finish_again =
      (λ i. unless (none_unknown m.residues (all_of (ResidueSo m) m.residues w.residues) i) (model_from (state_in m)))
      ∙ ap known model_again
