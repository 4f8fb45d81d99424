-- What the walks over the slices leave is the finished model: every slice holds a field of its records, and zeros behind them.
use mathlib.Core.Path.{◌≡◌, refl, sym, ap, ◌∙◌}
use mathlib.Core.Bool.{Bool}
use mathlib.Core.List.{List, map, map-map}
use mathlib.Core.Option as math
use Prim.Native.Nat.{ℕ, ◌≤◌, ◌<◌, min}
use native.Mathlib.Omega.{arith}
use lib.ListN.{length, get_or, take, length-map}
use Prim.{Unit}
use Rattle.std.specs.Prelude.{Option, Some, None, Result}
use Rattle.names.specs.Places.{ascends}
use Rattle.field_slices.specs.Clearing.{cleared, zero_float, zero_point}
use Rattle.model.specs.Classes.{class_of, is_lone}
use Rattle.model.specs.declared.classes.Class.{Class}
use Rattle.model.specs.Finished.{unknown, known, atom_record, classified, positioned, all_positioned, model_from, unless, finished_of, Peopled}
use Rattle.model.specs.Fold.{State}
use Rattle.model.specs.Lent.{Lent, lent_of, room_of, coordinates, padded, holding}
use Rattle.model.specs.Records.{ResidueRecord, AtomRecord}
use Rattle.model.specs.Termini.{ruled_position}
use Rattle.model.proofs.AscendingLaws.{map_ascends}
use Rattle.model.specs.declared.room.Room.{Room}
use Rattle.building.specs.declared.sites.Counts.{Counts}
use Rattle.building.specs.Holds.{records_in, Holds}
use Rattle.finishing.specs.declared.finished.Unknown.{Unknown}
use Rattle.finishing.specs.Classing.{class_at, unknown_at, first_place, Classified}
use Rattle.finishing.specs.Clearing.{cleared_from}
use Rattle.finishing.specs.Filling.{filled}
use Rattle.finishing.specs.Finishing.{answer_of, left_by, chains_kept, Ends, kept_by, finish_by}
use Rattle.finishing.specs.Positioning.{position_at}
use Rattle.finishing.proofs.ClearingLaws.{cleared_padded, AsLong, cleared_as_long}
use Rattle.finishing.proofs.EntriesWalked.{atoms_of, atom_keys_in, class_at_lem, unknown_at_lem}
use Rattle.finishing.proofs.FillingLaws.{length_filled, filled_is}
use Rattle.finishing.proofs.PositioningLaws.{no_residue, position_is}
use Rattle.finishing.proofs.UnknownLaws.{no_entry, none_unknown, some_unknown}

-- a slice that holds a field of some records, and is cleared behind them
held_padded : {A B : Type 0} (z : A) (n k : ℕ) (l : List A) (field : B → A) (m : List B) → take n l ≡ map field m → n ≡ length m → length l ≡ k
    → cleared z n l ≡ padded z k (map field m)
held_padded z n k l field m e many long = cleared_padded z n k l (map field m) e (many ∙ sym (length-map m field)) long

-- ---- room in every slice
least : (x a b c d e f : ℕ) → x ≤ min a (min b (min c (min d (min e f)))) → (x ≤ c) × (x ≤ d) × (x ≤ e) × (x ≤ f)
least x a b c d e f h = (omega arith, omega arith, omega arith, omega arith)

-- the slices once the walks are done
abbrev pub walked : Lent → List ℕ → List ℕ → List ℕ → List ℕ → Lent
walked l names codes categories positions =
    lent_of l.chains l.residue_keys names codes categories positions l.atom_keys l.atom_names l.elements l.positions l.occupancies

module _ (l : Lent) (c : Counts) (st : State) (h : Holds (records_in l) (room_of l) c st) (peopled : Peopled st) where
  abbrev atoms : List AtomRecord
  atoms = atoms_of st

  room : (c.residues ≤ length l.residue_names) × (c.residues ≤ length l.residue_codes) × (c.residues ≤ length l.residue_categories)
      × (c.residues ≤ length l.residue_positions)
  unfolding room_of
  room =
      least c.residues 65536 (length l.residue_keys) (length l.residue_names) (length l.residue_codes) (length l.residue_categories) (length l.residue_positions)
      (omega (arith, h.residues.many, h.fits.residues))

  -- ---- the residues of the finished model
  abbrev classes : List ResidueRecord
  classes = map (classified atoms) st.residues

  abbrev residues : List ResidueRecord
  residues = all_positioned classes

  many_classes : c.residues ≡ length classes
  many_classes = h.residues.many ∙ sym (length-map st.residues (classified atoms))

  many_residues : c.residues ≡ length residues
  many_residues = many_classes ∙ sym (length-map classes (positioned classes))

  by_entry : (field : ResidueRecord → ℕ) → map field residues ≡ map (λ e. field (positioned classes (classified atoms e))) st.residues
  by_entry field = map-map field (positioned classes) classes ∙ map-map (λ (r : ResidueRecord). field (positioned classes r)) (classified atoms) st.residues

  abbrev stored : (Class → ℕ) → List ℕ → List ℕ
  stored part s = filled (λ i. part (class_at l.residue_keys l.residue_names (atom_keys_in l c) i)) c.residues s

  stored_is : (part : Class → ℕ) (s : List ℕ) → c.residues ≤ length s
      → take c.residues (stored part s) ≡ map (λ e. part (class_of e.value.name (is_lone atoms e.key))) st.residues
  stored_is part s long =
      filled_is (λ i. part (class_at l.residue_keys l.residue_names (atom_keys_in l c) i)) (λ e. part (class_of e.value.name (is_lone atoms e.key))) no_entry c.residues s
      st.residues h.residues.many long (λ i q. ap part (class_at_lem l c st h peopled i q))

  -- ---- their positions
  abbrev codes : List ℕ
  codes = stored (λ k. k.code) l.residue_codes

  keys_of_classes : map (λ r. r.key) classes ≡ map (λ e. e.key) st.residues
  keys_of_classes = map-map (λ (r : ResidueRecord). r.key) (classified atoms) st.residues

  position_at_lem : (i : ℕ) → i < c.residues → position_at l.residue_keys codes c.residues i ≡ ruled_position classes (get_or classes i no_residue)
  position_at_lem =
      position_is l.residue_keys codes c.residues classes many_classes (h.residues.keys_held ∙ sym keys_of_classes)
      (stored_is (λ k. k.code) l.residue_codes room.1 ∙ sym (map-map (λ (r : ResidueRecord). r.code) (classified atoms) st.residues))
      (ap ascends keys_of_classes ∙ map_ascends st.residues h.residues.ascending)

  abbrev placed : List ℕ
  placed = filled (position_at l.residue_keys codes c.residues) c.residues l.residue_positions

  placed_is : take c.residues placed ≡ map (λ r. r.position) residues
  placed_is =
      filled_is (position_at l.residue_keys codes c.residues) (ruled_position classes) no_residue c.residues l.residue_positions classes many_classes room.3 position_at_lem
      ∙ sym (map-map (λ (r : ResidueRecord). r.position) (positioned classes) classes)

  -- ---- all slices
  many_atoms : c.atoms ≡ length atoms
  many_atoms = h.atoms.many ∙ sym (length-map st.atoms atom_record)

  residue_field : (s : List ℕ) (k : ℕ) (field : ResidueRecord → ℕ) → take c.residues s ≡ map field residues → length s ≡ k
      → cleared 0 c.residues s ≡ padded 0 k (map field residues)
  residue_field s k field e long = held_padded 0 c.residues k s field residues e many_residues long

  class_field : (part : Class → ℕ) (s : List ℕ) (field : ResidueRecord → ℕ) → c.residues ≤ length s
      → map field residues ≡ map (λ e. part (class_of e.value.name (is_lone atoms e.key))) st.residues
      → cleared 0 c.residues (stored part s) ≡ padded 0 (length s) (map field residues)
  class_field part s field long e =
      residue_field (stored part s) (length s) field (stored_is part s long ∙ sym e)
      (length_filled (λ i. part (class_at l.residue_keys l.residue_names (atom_keys_in l c) i)) c.residues s)

  atom_field : {A : Type 0} (z : A) (s : List A) (field : AtomRecord → A) → take c.atoms s ≡ map (λ e. field (atom_record e)) st.atoms
      → cleared z c.atoms s ≡ padded z (length s) (map field atoms)
  atom_field z s field e = held_padded z c.atoms (length s) s field atoms (e ∙ sym (map-map field atom_record st.atoms)) many_atoms refl

  all_held : cleared_from (walked l (stored (λ k. k.name) l.residue_names) codes (stored (λ k. k.category) l.residue_categories) placed) (kept_by None c)
      ≡ holding l (model_from st)
  unfolding cleared_from holding
  all_held = λ i. record {
    chains = cleared_padded 0 c.chains (length l.chains) l.chains st.chains h.chains.names_held h.chains.many refl i;
    residue_keys = residue_field l.residue_keys (length l.residue_keys) (λ r. r.key) (h.residues.keys_held ∙ sym (by_entry (λ r. r.key))) refl i;
    residue_names = class_field (λ k. k.name) l.residue_names (λ r. r.name) room.0 (by_entry (λ r. r.name)) i;
    residue_codes = class_field (λ k. k.code) l.residue_codes (λ r. r.code) room.1 (by_entry (λ r. r.code)) i;
    residue_categories = class_field (λ k. k.category) l.residue_categories (λ r. r.category) room.2 (by_entry (λ r. r.category)) i;
    residue_positions =
        residue_field placed (length l.residue_positions) (λ r. r.position) placed_is
        (length_filled (position_at l.residue_keys codes c.residues) c.residues l.residue_positions) i;
    atom_keys = atom_field 0 l.atom_keys (λ a. a.key) h.atoms.keys_held i;
    atom_names = atom_field 0 l.atom_names (λ a. a.name) h.atoms.names_held i;
    elements = atom_field 0 l.elements (λ a. a.element) h.atoms.elements_held i;
    positions = atom_field zero_point l.positions (λ a. coordinates a.position) h.atoms.positions_held i;
    occupancies = atom_field zero_float l.occupancies (λ a. a.occupancy) h.atoms.occupancies_held i;
  }

-- ---- the whole

module _ (l : Lent) (c : Counts) (r : Option ℕ) (names codes categories : List ℕ)
    (k : Classified l.residue_keys l.residue_names l.residue_codes l.residue_categories (atom_keys_in l c) c.residues r names codes categories)
    (positions : List ℕ) (p : positions ≡ filled (position_at l.residue_keys codes c.residues) c.residues l.residue_positions)
    (st : State) (h : Holds (records_in l) (room_of l) c st) (peopled : Peopled st) where
  abbrev is_unknown_at : ℕ → Bool
  is_unknown_at i = unknown_at l.residue_keys l.residue_names l.residue_categories (atom_keys_in l c) i

  answer_is : r ≡ first_place is_unknown_at 0 (length st.residues)
  answer_is = k.answer ∙ ap (first_place is_unknown_at 0) h.residues.many

  known_left : r ≡ None → (finished_of st ≡ known (model_from st)) × (cleared_from (walked l names codes categories positions) (kept_by None c) ≡ holding l (model_from st))
  unfolding finished_of
  known_left z =
      let q = none_unknown is_unknown_at st.residues (unknown_at_lem l c st h peopled) (sym answer_is ∙ z) in
      let places = p ∙ ap (λ (s : List ℕ). filled (position_at l.residue_keys s c.residues) c.residues l.residue_positions) (k.codes_stored z) in (
        ap (λ (o : math.Option ℕ). unless o (model_from st)) q,
        (λ i. cleared_from (walked l (k.names_stored z i) (k.codes_stored z i) (k.categories_stored z i) (places i)) (kept_by None c))
            ∙ all_held l c st h peopled,
      )

  unknown_found : (place : ℕ) → r ≡ Some place → finished_of st ≡ unknown place
  unfolding finished_of
  unknown_found place z =
      ap (λ (o : math.Option ℕ). unless o (model_from st))
      (some_unknown is_unknown_at st.residues (unknown_at_lem l c st h peopled) place (sym answer_is ∙ z))

-- ---- by the place of the first unknown one
chains_kept_by : (place : Option ℕ) (c : Counts) → chains_kept (finish_by place) c ≡ (kept_by place c).chains
chains_kept_by None c = refl
chains_kept_by (Some place) c = refl

-- by the answer as many chains stay as by the place
pub chains_kept_lem : (place : Option ℕ) (c : Counts) {kept : Room} → kept ≡ kept_by place c → {answer : Result (Unit {0}) Unknown} → answer ≡ finish_by place
    → chains_kept answer c ≡ kept.chains
chains_kept_lem place c w f = ap (λ (a : Result (Unit {0}) Unknown). chains_kept a c) f ∙ chains_kept_by place c ∙ sym (ap (λ (k : Room). k.chains) w)

pub model_ends : (l : Lent) (c : Counts) (r : Option ℕ) (names codes categories : List ℕ)
    → Classified l.residue_keys l.residue_names l.residue_codes l.residue_categories (atom_keys_in l c) c.residues r names codes categories
    → (positions : List ℕ) → positions ≡ filled (position_at l.residue_keys codes c.residues) c.residues l.residue_positions
    → AsLong (walked l names codes categories positions) l
    → (kept : Room) → kept ≡ kept_by r c
    → (after : Lent) → after ≡ cleared_from (walked l names codes categories positions) kept
    → (answer : Result (Unit {0}) Unknown) → answer ≡ finish_by r → Ends l c answer after
model_ends l c None names codes categories k positions p long kept w after e answer f st h peopled =
    let q = known_left l c None names codes categories k positions p st h peopled refl in
    (f ∙ sym (ap answer_of q.0), e ∙ ap (cleared_from (walked l names codes categories positions)) w ∙ q.1 ∙ sym (ap (left_by l) q.0))
model_ends l c (Some place) names codes categories k positions p long kept w after e answer f st h peopled =
    let q = unknown_found l c (Some place) names codes categories k positions p st h peopled place refl in
    (f ∙ sym (ap answer_of q), e ∙ ap (cleared_from (walked l names codes categories positions)) w ∙ cleared_as_long (walked l names codes categories positions) l long ∙ sym (ap (left_by l) q))
