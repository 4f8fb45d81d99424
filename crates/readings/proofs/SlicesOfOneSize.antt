-- Room, and what is left of a model in slices, hang on the lengths of the slices alone.
use mathlib.Core.Path.{◌≡◌}
use mathlib.Core.List.{map}
use Prim.Native.Nat.{ℕ, min, ◌≤◌}
use native.Mathlib.Omega.{arith}
use lib.ListN.{length}
use Rattle.field_slices.specs.Clearing.{zero_float, zero_point}
use Rattle.model.specs.Lent.{Lent, room_of, holding, padded, coordinates}
use Rattle.model.specs.Records.{Model}
use Rattle.building.specs.Holds.{records_in, SameLengths, Within}

module _ (l after : Lent) (e : SameLengths (records_in l) (records_in after))
    (codes : length after.residue_codes ≡ length l.residue_codes) (places : length after.residue_positions ≡ length l.residue_positions) where
  pub same_room : room_of after ≡ room_of l
  unfolding room_of
  same_room = λ i. record {
    chains = min 4096 (e.chains i);
    residues =
        min 65536 (min (e.residue_keys i) (min (e.residue_names i) (min (codes i) (min (e.residue_marks i) (places i)))));
    atoms =
        min 1048576 (min (e.atom_keys i) (min (e.atom_names i) (min (e.elements i) (min (e.positions i) (e.occupancies i)))));
  }

  pub same_holding : (m : Model) → holding after m ≡ holding l m
  unfolding holding
  same_holding m = λ i. record {
    chains = padded 0 (e.chains i) m.chains;
    residue_keys = padded 0 (e.residue_keys i) (map (λ r. r.key) m.residues);
    residue_names = padded 0 (e.residue_names i) (map (λ r. r.name) m.residues);
    residue_codes = padded 0 (codes i) (map (λ r. r.code) m.residues);
    residue_categories = padded 0 (e.residue_marks i) (map (λ r. r.category) m.residues);
    residue_positions = padded 0 (places i) (map (λ r. r.position) m.residues);
    atom_keys = padded 0 (e.atom_keys i) (map (λ a. a.key) m.atoms);
    atom_names = padded 0 (e.atom_names i) (map (λ a. a.name) m.atoms);
    elements = padded 0 (e.elements i) (map (λ a. a.element) m.atoms);
    positions = padded zero_point (e.positions i) (map (λ a. coordinates a.position) m.atoms);
    occupancies = padded zero_float (e.occupancies i) (map (λ a. a.occupancy) m.atoms);
  }

-- ---- the room is in every slice
first : (a b : ℕ) → min a b ≤ a
first a b = omega arith

second : (a b n : ℕ) → b ≤ n → min a b ≤ n
second a b n h = omega arith

pub room_within : (l : Lent) → Within (room_of l) (records_in l)
unfolding room_of
room_within l =
    let a = length l.residue_keys in
    let b = length l.residue_names in
    let c = length l.residue_codes in
    let d = length l.residue_categories in
    let p = length l.atom_keys in
    let q = length l.atom_names in
    let r = length l.elements in
    let s = length l.positions in
    let t = length l.occupancies in
    record {
      sizes = (first 4096 _, first 65536 _, first 1048576 _);
      chains = second 4096 _ _ (omega arith);
      residues = (
        second 65536 _ a (first a _),
        second 65536 _ b (second a _ b (first b _)),
        second 65536 _ d (second a _ d (second b _ d (second c _ d (first d _)))),
      );
      atoms = (
        second 1048576 _ p (first p _),
        second 1048576 _ q (second p _ q (first q _)),
        second 1048576 _ r (second p _ r (second q _ r (first r _))),
        second 1048576 _ s (second p _ s (second q _ s (second r _ s (first s _)))),
        second 1048576 _ t (second p _ t (second q _ t (second r _ t (second s t t (omega arith))))),
      );
    }
