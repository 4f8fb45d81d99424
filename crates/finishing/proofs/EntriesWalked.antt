-- What the walk over residues and atoms says of each residue in the slices is what the finished model says of its entry.
use mathlib.Core.Path.{◌≡◌, sym, ap, ◌∙◌}
use mathlib.Core.Bool.{true}
use mathlib.Core.List.{List, [], ◌∷◌, map, map-map}
use Prim.Native.Nat.{ℕ, zero, suc, ◌+◌, ◌≤◌, ◌<◌}
use native.Mathlib.Nat.{not-suc-le-zero, le_of_suc-le-suc}
use native.Mathlib.Omega.{arith}
use lib.Dec.{eqb}
use lib.ListN.{length, get_or, take, drop}
use Rattle.model.specs.Classes.{class_of, is_lone, is_unknown}
use Rattle.model.specs.Finished.{key_part, atom_record, Peopled}
use Rattle.model.specs.Fold.{Residue, State}
use Rattle.model.specs.Lent.{Lent, room_of}
use Rattle.model.specs.Lists.{any, All, count}
use Rattle.model.specs.Map.{Entry, Map, AscendingFrom}
use Rattle.model.specs.Records.{AtomRecord}
use Rattle.model.specs.Neighbours.{lessers, alone_in}
use Rattle.model.proofs.ListLaws.{any_map}
use Rattle.model.proofs.WalkLaws.{lessers_onward, lone_is, keys_of_entries}
use Rattle.building.specs.declared.sites.Counts.{Counts}
use Rattle.building.specs.Holds.{records_in, Holds}
use Rattle.finishing.specs.Classing.{is_unknown_by, passed_at, class_at, unknown_at}
use Rattle.finishing.proofs.FillingLaws.{field_at}
use Rattle.finishing.proofs.UnknownLaws.{no_entry, unknown_by}

-- ---- entries by their index
all_by_index : {S : Type 0} (P : S → Type 0) (d : S) (l : List S) → All P l → (i : ℕ) → i < length l → P (get_or l i d)
all_by_index P d [] a i h = absurd (not-suc-le-zero h)
all_by_index P d (s ∷ l) a zero h = a.0
all_by_index P d (s ∷ l) a (suc i) h = all_by_index P d l a.1 i (le_of_suc-le-suc h)

next_above : {W : Type 0} (d : Entry W) (b : ℕ) (m : Map W) → AscendingFrom b m → (i : ℕ) → suc i < length m → (get_or m i d).key ≤ (get_or m (suc i) d).key
next_above d b [] a i h = absurd (not-suc-le-zero h)
next_above d b (e ∷ []) a i h = absurd (not-suc-le-zero (le_of_suc-le-suc h))
next_above d b (e ∷ (f ∷ m)) a zero h = omega (arith, a.1.0)
next_above d b (e ∷ (f ∷ m)) a (suc i) h = next_above d (suc e.key) (f ∷ m) a.1 i (le_of_suc-le-suc h)

-- the atoms of the finished model, and the keys in their slice
abbrev pub atoms_of : State → List AtomRecord
atoms_of st = map atom_record st.atoms

abbrev pub atom_keys_in : Lent → Counts → List ℕ
atom_keys_in l c = take c.atoms l.atom_keys

module _ (l : Lent) (c : Counts) (st : State) (h : Holds (records_in l) (room_of l) c st) (peopled : Peopled st) where
  abbrev at : ℕ → Entry Residue
  at i = get_or st.residues i no_entry

  abbrev atoms : List AtomRecord
  atoms = atoms_of st

  abbrev atom_keys : List ℕ
  atom_keys = atom_keys_in l c

  inside : (i : ℕ) → i < c.residues → i < length st.residues
  inside i q = omega (arith, h.residues.many)

  -- ---- what each residue is
  key_at : (i : ℕ) → i < c.residues → get_or l.residue_keys i 0 ≡ (at i).key
  key_at i q = field_at (λ e. e.key) no_entry l.residue_keys c.residues st.residues h.residues.keys_held i q

  passed_is : (i : ℕ) → i < c.residues → passed_at l.residue_keys atom_keys (suc i) ≡ lessers (at i).key atom_keys
  unfolding passed_at
  passed_is zero q = omega (arith, ap (λ (k : ℕ). lessers k atom_keys) (key_at 0 q))
  passed_is (suc i) q =
      let r = passed_is i (omega arith) in
      (λ j. r j + lessers (key_at (suc i) q j) (drop (r j) atom_keys))
      ∙ sym (lessers_onward (at i).key (at (suc i)).key atom_keys (next_above no_entry 0 st.residues h.residues.ascending i (inside (suc i) q)))

  keys_of_atoms : atom_keys ≡ map (λ a. a.key) atoms
  keys_of_atoms = h.atoms.keys_held ∙ sym (map-map (λ (a : AtomRecord). a.key) atom_record st.atoms)

  has_atom : (i : ℕ) → i < c.residues → any (λ a. eqb a.key (at i).key) atoms ≡ true
  has_atom i q =
      any_map atom_record (λ a. eqb a.key (at i).key) st.atoms
      ∙ all_by_index (λ e. any (λ a. eqb (key_part a.key) e.key) st.atoms ≡ true) no_entry st.residues peopled i (inside i q)

  lone_at : (i : ℕ) → i < c.residues → alone_in (get_or l.residue_keys i 0) (drop (passed_at l.residue_keys atom_keys (suc i)) atom_keys) ≡ is_lone atoms (at i).key
  lone_at i q =
      (λ j. alone_in (key_at i q j) (drop (passed_is i q j) atom_keys))
      ∙ ap (λ (k : List ℕ). alone_in (at i).key (drop (lessers (at i).key k) k)) keys_of_atoms
      ∙ sym (lone_is (at i).key atoms (keys_of_entries st.atoms h.atoms.ascending) (has_atom i q))

  pub class_at_lem : (i : ℕ) → i < c.residues → class_at l.residue_keys l.residue_names atom_keys i ≡ class_of (at i).value.name (is_lone atoms (at i).key)
  unfolding class_at
  class_at_lem i q =
      let name = field_at (λ e. e.value.name) no_entry l.residue_names c.residues st.residues h.residues.names_held i q in
      λ j. class_of (name j) (lone_at i q j)

  -- ---- the first unknown one
  pub unknown_at_lem : (i : ℕ) → i < length st.residues → unknown_at l.residue_keys l.residue_names l.residue_categories atom_keys i ≡ is_unknown (at i).value
  unknown_at_lem i q =
      let k : i < c.residues = omega (arith, h.residues.many) in
      let mark = field_at (λ e. count e.value.hetatm) no_entry l.residue_categories c.residues st.residues h.residues.marks_held i k in
      (λ j. is_unknown_by (class_at_lem i k j).code (mark j)) ∙ unknown_by (at i).value (is_lone atoms (at i).key)
