-- A model that is held in lent slices is found again in them: the records stand from the front, and what is past the counts is not read.
use mathlib.Core.Path.{◌≡◌, refl, sym, ap, ◌∙◌}
use mathlib.Core.Bool.{Bool, true, ◌&&◌}
use mathlib.Core.List.{List, [], ◌∷◌, map}
use Prim.Native.Nat.{ℕ, suc, ◌+◌, ◌-◌, ◌≤◌, ◌<◌, min}
use native.Mathlib.Nat.{add-zero, zero-add, add-suc, suc-add}
use native.Mathlib.Omega.{arith}
use lib.Dec.{leb}
use lib.ListN.{length, get_or, take, replicate, length-append, length-replicate, length-map, get_or-append, get_or-map}
use lib.Seq.{take-append_seam}
use borrow.Author.Tests.{leb-true}
use Rattle.field_slices.specs.Clearing.{zero_float, zero_point}
use Rattle.model.specs.Lent.{Lent, room_of, coordinates, point_of, residue_in, atom_in, list_from, model_in, padded, holding, sizes_in}
use Rattle.model.specs.Records.{ResidueRecord, AtomRecord, Model}
use Rattle.model.specs.WellFormed.{well_formed, counts_fit, well_formed_in}
use Rattle.model.proofs.ListLaws.{left_of, right_of}

-- ---- one slice
chains_read : (n : ℕ) (l : List ℕ) → take (length l) (padded 0 n l) ≡ l
unfolding padded
chains_read n l = take-append_seam l (replicate (n - length l) 0)

-- the field f of the records of l, of which d has zeros
field_read : {R A : Type 0} (f : R → A) (d : R) (n : ℕ) (l : List R) (i : ℕ) → i < length l → get_or (padded (f d) n (map f l)) i (f d) ≡ f (get_or l i d)
unfolding padded
field_read f d n l i h =
    get_or-append (map f l) (replicate (n - length (map f l)) (f d)) (f d) i (omega (arith, length-map l f)) ∙ get_or-map f l i d

length_padded : {A : Type 0} (z : A) (n : ℕ) (l : List A) → length l ≤ n → length (padded z n l) ≡ n
unfolding padded
length_padded z n l h = length-append l (replicate (n - length l) z) ∙ omega (arith, length-replicate (n - length l) z)

-- ---- records
listed_from : {A : Type 0} (at : ℕ → A) (d : A) (i : ℕ) (l : List A) → ((j : ℕ) → j < length l → at (i + j) ≡ get_or l j d) → list_from at i (length l) ≡ l
unfolding list_from
listed_from at d i [] h = refl
listed_from at d i (a ∷ l) h = λ k. (ap at (sym (add-zero i)) ∙ h 0 (omega arith)) k ∷ listed_from at d (suc i) l (λ j w. ap at (suc-add i j ∙ sym (add-suc i j)) ∙ h (suc j) (omega arith)) k

listed : {A : Type 0} (at : ℕ → A) (d : A) (l : List A) → ((j : ℕ) → j < length l → at j ≡ get_or l j d) → list_from at 0 (length l) ≡ l
listed at d l h = listed_from at d 0 l (λ j w. ap at (zero-add j) ∙ h j w)

abbrev no_residue : ResidueRecord
no_residue = record { key = 0; name = 0; code = 0; category = 0; position = 0 }

abbrev no_atom : AtomRecord
no_atom = record { key = 0; name = 0; element = 0; position = record { x = zero_float; y = zero_float; z = zero_float }; occupancy = zero_float }

-- ---- room
module _ (x y a b c d e : ℕ) where
  within_all : x ≤ min y (min a (min b (min c (min d e)))) → (x ≤ a) × (x ≤ b) × (x ≤ c) × (x ≤ d) × (x ≤ e)
  within_all h = (omega arith, omega arith, omega arith, omega arith, omega arith)

module _ (l : Lent) (m : Model) where
  residue_read : (i : ℕ) → i < length m.residues → residue_in (holding l m) i ≡ get_or m.residues i no_residue
  unfolding holding
  residue_read i h = λ k. record {
    key = field_read (λ r. r.key) no_residue (length l.residue_keys) m.residues i h k;
    name = field_read (λ r. r.name) no_residue (length l.residue_names) m.residues i h k;
    code = field_read (λ r. r.code) no_residue (length l.residue_codes) m.residues i h k;
    category = field_read (λ r. r.category) no_residue (length l.residue_categories) m.residues i h k;
    position = field_read (λ r. r.position) no_residue (length l.residue_positions) m.residues i h k;
  }

  atom_read : (i : ℕ) → i < length m.atoms → atom_in (holding l m) i ≡ get_or m.atoms i no_atom
  unfolding holding
  atom_read i h = λ k. record {
    key = field_read (λ a. a.key) no_atom (length l.atom_keys) m.atoms i h k;
    name = field_read (λ a. a.name) no_atom (length l.atom_names) m.atoms i h k;
    element = field_read (λ a. a.element) no_atom (length l.elements) m.atoms i h k;
    position = point_of (field_read (λ a. coordinates a.position) no_atom (length l.positions) m.atoms i h k);
    occupancy = field_read (λ a. a.occupancy) no_atom (length l.occupancies) m.atoms i h k;
  }

  -- ---- the theorems
  pub held_model_is_read : model_in (holding l m) (sizes_in m) ≡ m
  unfolding model_in holding
  held_model_is_read = λ k. record {
    chains = chains_read (length l.chains) m.chains k;
    residues = listed (residue_in (holding l m)) no_residue m.residues residue_read k;
    atoms = listed (atom_in (holding l m)) no_atom m.atoms atom_read k;
  }

  same_room : length m.chains ≤ (room_of l).chains → length m.residues ≤ (room_of l).residues → length m.atoms ≤ (room_of l).atoms → room_of (holding l m) ≡ room_of l
  unfolding room_of holding
  same_room c r a =
      let p = within_all _ _ _ _ _ _ _ r in
      let q = within_all _ _ _ _ _ _ _ a in
      λ k. record {
        chains = min 4096 (length_padded 0 (length l.chains) m.chains (chain c) k);
        residues = min 65536
            (min (residue 0 (length l.residue_keys) (λ r. r.key) p.0 k)
            (min (residue 0 (length l.residue_names) (λ r. r.name) p.1 k)
            (min (residue 0 (length l.residue_codes) (λ r. r.code) p.2 k)
            (min (residue 0 (length l.residue_categories) (λ r. r.category) p.3 k) (residue 0 (length l.residue_positions) (λ r. r.position) p.4 k)))));
        atoms = min 1048576
            (min (atom 0 (length l.atom_keys) (λ a. a.key) q.0 k)
            (min (atom 0 (length l.atom_names) (λ a. a.name) q.1 k)
            (min (atom 0 (length l.elements) (λ a. a.element) q.2 k)
            (min (atom zero_point (length l.positions) (λ a. coordinates a.position) q.3 k) (atom zero_float (length l.occupancies) (λ a. a.occupancy) q.4 k)))));
      }
    where
      chain : length m.chains ≤ min 4096 (length l.chains) → length m.chains ≤ length l.chains
      chain h = omega arith

      residue : {A : Type 0} (z : A) (n : ℕ) (f : ResidueRecord → A) → length m.residues ≤ n → length (padded z n (map f m.residues)) ≡ n
      residue z n f h = length_padded z n (map f m.residues) (omega (arith, length-map m.residues f))

      atom : {A : Type 0} (z : A) (n : ℕ) (f : AtomRecord → A) → length m.atoms ≤ n → length (padded z n (map f m.atoms)) ≡ n
      atom z n f h = length_padded z n (map f m.atoms) (omega (arith, length-map m.atoms f))

  -- where the counts fit, they fit still
  pub well_formed_there : counts_fit l (sizes_in m) ≡ true
      → well_formed_in (holding l m) (sizes_in m) ≡ well_formed m
  unfolding counts_fit well_formed_in
  well_formed_there h =
      let A = leb (length m.chains) (room_of l).chains in
      let B = leb (length m.residues) (room_of l).residues in
      let C = leb (length m.atoms) (room_of l).atoms in
      let room = same_room (leb-true _ _ (left_of A B (left_of (A && B) C h))) (leb-true _ _ (right_of A B (left_of (A && B) C h))) (leb-true _ _ (right_of (A && B) C h)) in
      ap (λ r. leb (length m.chains) r.chains && leb (length m.residues) r.residues && leb (length m.atoms) r.atoms
      && well_formed (model_in (holding l m) (sizes_in m))) room
      ∙ ap (λ (t : Bool). t && well_formed (model_in (holding l m) (sizes_in m))) h
      ∙ ap well_formed held_model_is_read
