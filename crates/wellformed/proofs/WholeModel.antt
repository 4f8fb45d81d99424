-- The rules, as the slices are tested for them, make the definition: where the counts fit, each list of the model is what stands in the slices from index 0
-- on; and where runs, order and the names of the atoms are well, one walk over the residues tells of each what the definition asks of it.
use Prim.{tt}
use mathlib.Core.Path.{◌≡◌, refl, sym, ap, ◌∙◌}
use mathlib.Core.Bool.{Bool, true, false, ◌&&◌, and-true, and-false}
use mathlib.Core.List.{List, [], ◌∷◌, map}
use Prim.Native.Nat.{ℕ, ◌^◌, ◌≤◌, ◌<◌, min}
use native.Mathlib.Omega.{arith}
use lib.Dec.{eqb, leb}
use lib.ListN.{length, take}
use lib.Seq.{length-take-le}
use borrow.Author.Tests.{leb-true}
use Rattle.names.specs.Places.{ascends}
use Rattle.model.specs.Keys.{atom_place, chain_part, code_part}
use Rattle.model.specs.Lent.{Lent, room_of, residue_in, atom_in, list_from, model_in}
use Rattle.model.specs.Lists.{All}
use Rattle.model.specs.Records.{ResidueRecord, AtomRecord, Model}
use Rattle.model.specs.Termini.{ruled_position}
use Rattle.model.specs.declared.room.Room.{Room}
use Rattle.ascii.specs.Lists.{every}
use Rattle.model.specs.WellFormed.{same_list, runs_of, is_name, is_code, is_near, chains_well, class_well, residue_well, atom_well, in_runs, in_order, well_formed, counts_fit, well_formed_in}
use Rattle.model.proofs.ListLaws.{left_of, right_of, all_map}
use Rattle.model.proofs.WalkLaws.{Rising, keys_of_records}
use Rattle.wellformed.specs.Slices.{entries, chains_run, residues_ascend, residues_classed, residues_stand, residues_well, atoms_well, Within, runs_well, order_well}
use Rattle.wellformed.specs.Walks.{classed_from, stands_from}
use Rattle.wellformed.proofs.ClassWalk.{classed, classes_walked}
use Rattle.wellformed.proofs.NameLaws.{name_below}
use Rattle.wellformed.proofs.PositionWalk.{standing, positions_walked}
use Rattle.wellformed.proofs.SliceLaws.{all_is, map_from, every_from}

-- ---- tests of all
module _ {S : Type 0} where
  every_both : (p q : S → Bool) (l : List S) → every (λ s. p s && q s) l ≡ (every p l && every q l)
  every_both p q [] = refl
  every_both p q (s ∷ l) = ap (λ (t : Bool). p s && q s && t) (every_both p q l) ∙ swap (p s) (q s) (every p l) (every q l)
    where
      swap : (a b c d : Bool) → (a && b && (c && d)) ≡ (a && c && (b && d))
      swap true true c d = refl
      swap true false true d = refl
      swap true false false d = refl
      swap false b c d = refl

  every_all : (p : S → Bool) (l : List S) → every p l ≡ true → All (λ s. p s ≡ true) l
  every_all p [] e = tt
  every_all p (s ∷ l) e = (left_of (p s) (every p l) e, every_all p l (right_of (p s) (every p l) e))

-- ---- the counts
below_all : (n most a b c d e : ℕ) → n ≤ min most (min a (min b (min c (min d e)))) → (n ≤ a) × (n ≤ b) × (n ≤ c) × (n ≤ d) × (n ≤ e)
below_all n most a b c d e h = (omega arith, omega arith, omega arith, omega arith, omega arith)

module _ (l : Lent) (counts : Room) where
  abbrev chains : ℕ
  chains = counts.chains

  abbrev residues : ℕ
  residues = counts.residues

  abbrev atoms : ℕ
  atoms = counts.atoms

  abbrev fits : Bool
  fits = counts_fit l counts

  pub within_all : fits ≡ true → Within l counts
  unfolding counts_fit room_of
  within_all e =
      let both = left_of (leb chains (room_of l).chains && leb residues (room_of l).residues) (leb atoms (room_of l).atoms) e in
      let c = leb-true chains (room_of l).chains (left_of (leb chains (room_of l).chains) (leb residues (room_of l).residues) both) in
      let r = below_all residues 65536 (length l.residue_keys) (length l.residue_names) (length l.residue_codes) (length l.residue_categories) (length l.residue_positions)
      (leb-true residues (room_of l).residues (right_of (leb chains (room_of l).chains) (leb residues (room_of l).residues) both)) in
      let a = below_all atoms 1048576 (length l.atom_keys) (length l.atom_names) (length l.elements) (length l.positions) (length l.occupancies)
      (leb-true atoms (room_of l).atoms (right_of (leb chains (room_of l).chains && leb residues (room_of l).residues) (leb atoms (room_of l).atoms) e)) in
      record {
        of_chains = omega arith;
        of_residue_keys = r.0;
        of_residue_names = r.1;
        of_residue_codes = r.2;
        of_residue_categories = r.3;
        of_residue_positions = r.4;
        of_atom_keys = a.0;
        of_atom_names = a.1;
        of_elements = a.2;
        of_positions = a.3;
      }

  -- ---- the rules, as the slices are tested for them
  abbrev pub chains_tested : Bool
  chains_tested = chains_well (take chains l.chains)

  abbrev pub runs_tested : Bool
  runs_tested = runs_well l counts

  abbrev pub order_tested : Bool
  order_tested = order_well l counts

  abbrev pub atoms_tested : Bool
  atoms_tested = atoms_well l.atom_names l.elements l.positions atoms

  abbrev pub residues_tested : Bool
  residues_tested = residues_well l counts

  -- ---- the model in the slices
  abbrev model : Model
  model = model_in l counts

  abbrev the_residues : List ResidueRecord
  the_residues = list_from (residue_in l) 0 residues

  abbrev the_atoms : List AtomRecord
  the_atoms = list_from (atom_in l) 0 atoms

  runs_are : chains ≤ length l.chains → runs_tested ≡ in_runs model
  unfolding in_runs model_in
  runs_are h =
      rw (
        length-take-le chains l.chains h,
        map_from (λ r. chain_part r.key) (residue_in l) 0 residues,
        map_from (λ a. a.key) (atom_in l) 0 atoms,
        map_from (λ r. r.key) (residue_in l) 0 residues,
      )

  order_is : order_tested ≡ in_order model
  unfolding in_order model_in
  order_is = rw (map_from (λ r. r.key) (residue_in l) 0 residues, map_from (λ a. atom_place a.key a.name) (atom_in l) 0 atoms)

  atoms_are : atoms_tested ≡ every atom_well model.atoms
  unfolding atom_well model_in
  atoms_are = sym (every_from atom_well (atom_in l) 0 atoms)

  -- ---- the residues
  abbrev is_named : ResidueRecord → Bool
  is_named r = is_name r.name && is_code (code_part r.key)

  abbrev is_placed : ResidueRecord → Bool
  is_placed r = eqb r.position (ruled_position the_residues r)

  three : every (residue_well model) model.residues ≡ (every is_named the_residues && every (class_well the_atoms) the_residues && every is_placed the_residues)
  unfolding residue_well model_in
  three =
      every_both (λ r. is_named r && class_well the_atoms r) is_placed the_residues
      ∙ ap (λ (t : Bool). t && every is_placed the_residues) (every_both is_named (class_well the_atoms) the_residues)

  module _ (w : Within l counts) (runs : runs_tested ≡ true) (order : order_tested ≡ true) (named : atoms_tested ≡ true) where
    ascending : ascends (map (λ r. r.key) the_residues) ≡ true
    ascending = ap ascends (map_from (λ r. r.key) (residue_in l) 0 residues) ∙ left_of _ _ order

    rising : Rising (map (λ a. a.key) the_atoms)
    unfolding atom_well
    rising =
        keys_of_records the_atoms
        (all_map (λ a. atom_well a ≡ true) (λ a. a.name < 2 ^ 64) (λ a e. name_below a.name (left_of (is_name a.name) (leb a.element 118) (left_of (is_name a.name && leb a.element 118) (is_near a.position) e))) the_atoms
        (every_all atom_well the_atoms (every_from atom_well (atom_in l) 0 atoms ∙ named)))
        (ap ascends (map_from (λ a. atom_place a.key a.name) (atom_in l) 0 atoms) ∙ right_of (residues_ascend l.residue_keys residues) _ order)

    keys : map (λ a. a.key) the_atoms ≡ take atoms l.atom_keys
    keys = map_from (λ a. a.key) (atom_in l) 0 atoms ∙ all_is l.atom_keys atoms w.of_atom_keys

    peopled : same_list (runs_of (map (λ a. a.key) the_atoms)) (map (λ r. r.key) the_residues) ≡ true
    peopled =
        ap (λ (m : List ℕ). same_list (runs_of m) (map (λ r. r.key) the_residues)) (map_from (λ a. a.key) (atom_in l) 0 atoms)
        ∙ ap (same_list (runs_of (list_from (entries l.atom_keys) 0 atoms))) (map_from (λ r. r.key) (residue_in l) 0 residues)
        ∙ right_of (chains_run l.residue_keys chains residues) _ runs

    classes : every (class_well the_atoms) the_residues ≡ residues_classed l counts
    classes =
        sym (classes_walked the_atoms rising the_residues ascending peopled)
        ∙ ap (λ (m : List ℕ). classed_from m 0 (map classed the_residues)) keys
        ∙ ap (classed_from (take atoms l.atom_keys) 0) (map_from classed (residue_in l) 0 residues)

    placed : every is_placed the_residues ≡ residues_stand l.residue_keys l.residue_codes l.residue_positions residues
    placed = sym (positions_walked the_residues ascending) ∙ ap (stands_from 0) (map_from standing (residue_in l) 0 residues)

    residues_are : every (residue_well model) model.residues ≡ residues_tested
    residues_are = three ∙ rw (every_from is_named (residue_in l) 0 residues, classes, placed)

  -- ---- all of it
  abbrev whole : Bool
  whole = well_formed_in l counts

  abbrev each : Bool
  each = every (residue_well model) model.residues

  pub not_counted : fits ≡ false → false ≡ whole
  unfolding well_formed_in
  not_counted e = sym (ap (λ (t : Bool). t && well_formed model) e)

  module _ (fit : fits ≡ true) where
    all_five : whole ≡ (chains_tested && runs_tested && order_tested && each && atoms_tested)
    unfolding well_formed_in well_formed model_in
    all_five =
        ap (λ (t : Bool). t && well_formed model) fit
        ∙ ap (λ (t : Bool). chains_tested && t && in_order model && each && every atom_well model.atoms) (sym (runs_are (within_all fit).of_chains))
        ∙ ap (λ (t : Bool). chains_tested && runs_tested && t && each && every atom_well model.atoms) (sym order_is)
        ∙ ap (λ (t : Bool). chains_tested && runs_tested && order_tested && each && t) (sym atoms_are)

    pub all_tested : (chains_tested && runs_tested && order_tested && atoms_tested && residues_tested) ≡ whole
    all_tested = go chains_tested runs_tested order_tested atoms_tested refl refl refl ∙ sym all_five
      where
        go : (c r o a : Bool) → runs_tested ≡ r → order_tested ≡ o → atoms_tested ≡ a → (c && r && o && a && residues_tested) ≡ (c && r && o && each && a)
        go false r o a f g h = refl
        go true false o a f g h = refl
        go true true false a f g h = refl
        go true true true false f g h = sym (and-false each)
        go true true true true f g h = sym (and-true each ∙ residues_are (within_all fit) f g h)
