-- A slice that is cleared from a count on holds the first entries, and zeros after them.
use mathlib.Core.Path.{◌≡◌, refl, sym, ap, ◌∙◌}
use mathlib.Core.List.{List, [], ◌++◌}
use Prim.Native.Nat.{ℕ, ◌-◌}
use lib.Ieee.{Float}
use lib.ListN.{length, take, replicate}
use Rattle.field_slices.specs.Clearing.{cleared, zero_float, zero_point}
use Rattle.model.specs.Lent.{Lent, lent_of, no_records, padded, holding, empty_model}
use Rattle.model.specs.LentNow.{lent_now}
use Rattle.model.specs.declared.lent.AtomsMut.{AtomsMut}
use Rattle.model.specs.declared.lent.ResiduesMut.{ResiduesMut}
use Rattle.model.specs.declared.room.Room.{Room}
use Rattle.field_slices.proofs.ClearingLaws.{length_cleared}
use Rattle.finishing.specs.Clearing.{cleared_from}
use Rattle.finishing.specs.Sizes.{SameSizes}

module _ {A : Type 0} (z : A) where
  pub cleared_padded : (n k : ℕ) (l m : List A) → take n l ≡ m → n ≡ length m → length l ≡ k → cleared z n l ≡ padded z k m
  unfolding cleared padded
  cleared_padded n k l m e c h = λ i. e i ++ replicate (h i - c i) z

  cleared_whole : (k : ℕ) (l : List A) → length l ≡ k → cleared z 0 l ≡ padded z k []
  cleared_whole k l h = cleared_padded 0 k l [] refl refl h

-- one equation to a slice
pub slices_cleared : (l : Lent) (kept : Room) {chains residue_keys residue_names residue_codes residue_categories residue_positions : List ℕ}
    {atom_keys atom_names elements : List ℕ} {positions : List (List Float)} {occupancies : List Float}
    → chains ≡ cleared 0 kept.chains l.chains → residue_keys ≡ cleared 0 kept.residues l.residue_keys → residue_names ≡ cleared 0 kept.residues l.residue_names
    → residue_codes ≡ cleared 0 kept.residues l.residue_codes → residue_categories ≡ cleared 0 kept.residues l.residue_categories
    → residue_positions ≡ cleared 0 kept.residues l.residue_positions → atom_keys ≡ cleared 0 kept.atoms l.atom_keys → atom_names ≡ cleared 0 kept.atoms l.atom_names
    → elements ≡ cleared 0 kept.atoms l.elements → positions ≡ cleared zero_point kept.atoms l.positions → occupancies ≡ cleared zero_float kept.atoms l.occupancies
    → lent_of chains residue_keys residue_names residue_codes residue_categories residue_positions atom_keys atom_names elements positions occupancies
    ≡ cleared_from l kept
unfolding cleared_from
slices_cleared l kept e0 e1 e2 e3 e4 e5 e6 e7 e8 e9 e10 =
    λ i. lent_of (e0 i) (e1 i) (e2 i) (e3 i) (e4 i) (e5 i) (e6 i) (e7 i) (e8 i) (e9 i) (e10 i)

-- the slices of two, one as long as the other
pub record AsLong (l k : Lent) : Type 0 where
  pub chains : length l.chains ≡ length k.chains
  pub residue_keys : length l.residue_keys ≡ length k.residue_keys
  pub residue_names : length l.residue_names ≡ length k.residue_names
  pub residue_codes : length l.residue_codes ≡ length k.residue_codes
  pub residue_categories : length l.residue_categories ≡ length k.residue_categories
  pub residue_positions : length l.residue_positions ≡ length k.residue_positions
  pub atom_keys : length l.atom_keys ≡ length k.atom_keys
  pub atom_names : length l.atom_names ≡ length k.atom_names
  pub elements : length l.elements ≡ length k.elements
  pub positions : length l.positions ≡ length k.positions
  pub occupancies : length l.occupancies ≡ length k.occupancies

-- all of them cleared hold the empty model
pub cleared_as_long : (l k : Lent) → AsLong l k → cleared_from l no_records ≡ holding k empty_model
unfolding cleared_from holding
cleared_as_long l k h = λ i. record {
  chains = cleared_whole 0 _ l.chains h.chains i;
  residue_keys = cleared_whole 0 _ l.residue_keys h.residue_keys i;
  residue_names = cleared_whole 0 _ l.residue_names h.residue_names i;
  residue_codes = cleared_whole 0 _ l.residue_codes h.residue_codes i;
  residue_categories = cleared_whole 0 _ l.residue_categories h.residue_categories i;
  residue_positions = cleared_whole 0 _ l.residue_positions h.residue_positions i;
  atom_keys = cleared_whole 0 _ l.atom_keys h.atom_keys i;
  atom_names = cleared_whole 0 _ l.atom_names h.atom_names i;
  elements = cleared_whole 0 _ l.elements h.elements i;
  positions = cleared_whole zero_point _ l.positions h.positions i;
  occupancies = cleared_whole zero_float _ l.occupancies h.occupancies i;
}

pub all_cleared : (l : Lent) → cleared_from l no_records ≡ holding l empty_model
all_cleared l = cleared_as_long l l (record {
  chains = refl;
  residue_keys = refl;
  residue_names = refl;
  residue_codes = refl;
  residue_categories = refl;
  residue_positions = refl;
  atom_keys = refl;
  atom_names = refl;
  elements = refl;
  positions = refl;
  occupancies = refl;
})

-- and so they do where another clears the chains
pub none_left : (l : Lent) (left : List ℕ → Lent) {kept : Room} → kept ≡ no_records → left (cleared 0 kept.chains l.chains) ≡ cleared_from l kept
    → left (cleared 0 0 l.chains) ≡ holding l empty_model
none_left l left w e = ap (λ (k : Room). left (cleared 0 k.chains l.chains)) (sym w) ∙ e ∙ ap (cleared_from l) w ∙ all_cleared l

-- ---- and the slices stay as long as they were
pub cleared_sizes : (names names' : List ℕ) (kept : Room) (r r' : ResiduesMut) (a a' : AtomsMut) → lent_now names' r' a' ≡ cleared_from (lent_now names r a) kept
    → SameSizes r a r' a'
unfolding cleared_from
cleared_sizes names names' kept r r' a a' e = (
  ap (λ (l : Lent). length l.residue_keys) e ∙ length_cleared 0 kept.residues r.keys.now,
  ap (λ (l : Lent). length l.residue_names) e ∙ length_cleared 0 kept.residues r.names.now,
  ap (λ (l : Lent). length l.residue_codes) e ∙ length_cleared 0 kept.residues r.codes.now,
  ap (λ (l : Lent). length l.residue_categories) e ∙ length_cleared 0 kept.residues r.categories.now,
  ap (λ (l : Lent). length l.residue_positions) e ∙ length_cleared 0 kept.residues r.positions.now,
  ap (λ (l : Lent). length l.atom_keys) e ∙ length_cleared 0 kept.atoms a.keys.now,
  ap (λ (l : Lent). length l.atom_names) e ∙ length_cleared 0 kept.atoms a.names.now,
  ap (λ (l : Lent). length l.elements) e ∙ length_cleared 0 kept.atoms a.elements.now,
  ap (λ (l : Lent). length l.positions) e ∙ length_cleared zero_point kept.atoms a.positions.now,
  ap (λ (l : Lent). length l.occupancies) e ∙ length_cleared zero_float kept.atoms a.occupancies.now,
)
