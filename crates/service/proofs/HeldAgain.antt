-- A model that fits fills no slice further than it reaches, so that slices which hold it are as long as they were, and hold another as those would.
use mathlib.Core.Path.{◌≡◌, ◌∙◌}
use mathlib.Core.List.{List, map}
use Prim.Native.Nat.{ℕ, ◌-◌, ◌≤◌, min}
use native.Mathlib.Omega.{arith}
use lib.ListN.{length, replicate, length-append, length-replicate, length-map}
use Rattle.field_slices.specs.Clearing.{zero_float, zero_point}
use Rattle.model.specs.Lent.{Lent, room_of, coordinates, padded, holding}
use Rattle.model.specs.Records.{ResidueRecord, AtomRecord, Model}

length_padded : {A : Type 0} (z : A) (n : ℕ) (l : List A) → length l ≤ n → length (padded z n l) ≡ n
unfolding padded
length_padded z n l h = length-append l (replicate (n - length l) z) ∙ omega (arith, length-replicate (n - length l) z)

within_all : (x y a b c d e : ℕ) → x ≤ min y (min a (min b (min c (min d e)))) → (x ≤ a) × (x ≤ b) × (x ≤ c) × (x ≤ d) × (x ≤ e)
within_all x y a b c d e h = (omega arith, omega arith, omega arith, omega arith, omega arith)

module _ (l : Lent) (m : Model) (c : length m.chains ≤ (room_of l).chains) (r : length m.residues ≤ (room_of l).residues) (a : length m.atoms ≤ (room_of l).atoms) where
  chain : length m.chains ≤ length l.chains
  unfolding room_of
  chain = go _ c
    where
      go : (n : ℕ) → length m.chains ≤ min 4096 n → length m.chains ≤ n
      go n h = omega arith

  residue : {A : Type 0} (z : A) (n : ℕ) (f : ResidueRecord → A) → length m.residues ≤ n → length (padded z n (map f m.residues)) ≡ n
  residue z n f h = length_padded z n (map f m.residues) (omega (arith, length-map m.residues f))

  atom : {A : Type 0} (z : A) (n : ℕ) (f : AtomRecord → A) → length m.atoms ≤ n → length (padded z n (map f m.atoms)) ≡ n
  atom z n f h = length_padded z n (map f m.atoms) (omega (arith, length-map m.atoms f))

  -- ---- the theorem
  pub held_again : (k : Model) → holding (holding l m) k ≡ holding l k
  unfolding holding room_of
  held_again k =
      let p = within_all _ _ _ _ _ _ _ r in
      let q = within_all _ _ _ _ _ _ _ a in
      λ i. record {
        chains = padded 0 (length_padded 0 (length l.chains) m.chains chain i) k.chains;
        residue_keys = padded 0 (residue 0 (length l.residue_keys) (λ r. r.key) p.0 i) (map (λ r. r.key) k.residues);
        residue_names = padded 0 (residue 0 (length l.residue_names) (λ r. r.name) p.1 i) (map (λ r. r.name) k.residues);
        residue_codes = padded 0 (residue 0 (length l.residue_codes) (λ r. r.code) p.2 i) (map (λ r. r.code) k.residues);
        residue_categories = padded 0 (residue 0 (length l.residue_categories) (λ r. r.category) p.3 i) (map (λ r. r.category) k.residues);
        residue_positions = padded 0 (residue 0 (length l.residue_positions) (λ r. r.position) p.4 i) (map (λ r. r.position) k.residues);
        atom_keys = padded 0 (atom 0 (length l.atom_keys) (λ a. a.key) q.0 i) (map (λ a. a.key) k.atoms);
        atom_names = padded 0 (atom 0 (length l.atom_names) (λ a. a.name) q.1 i) (map (λ a. a.name) k.atoms);
        elements = padded 0 (atom 0 (length l.elements) (λ a. a.element) q.2 i) (map (λ a. a.element) k.atoms);
        positions = padded zero_point (atom zero_point (length l.positions) (λ a. coordinates a.position) q.3 i) (map (λ a. coordinates a.position) k.atoms);
        occupancies = padded zero_float (atom zero_float (length l.occupancies) (λ a. a.occupancy) q.4 i) (map (λ a. a.occupancy) k.atoms);
      }
