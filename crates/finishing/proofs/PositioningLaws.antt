-- The walk sees before each residue the chain of the last polymer residue, and behind it the next one: that is what tells whether it is the first and
-- the last of its chain, since the keys ascend.
use mathlib.Core.Path.{◌≡◌, refl, sym, ap, ◌∙◌}
use mathlib.Core.Bool.{true, not}
use mathlib.Core.List.{List, [], ◌∷◌, ◌++◌, map}
use Prim.Native.Nat.{ℕ, zero, suc, ◌+◌, ◌≤◌, ◌<◌}
use native.Mathlib.Numerals.{add-one}
use native.Mathlib.Omega.{arith}
use lib.Dec.{eqb}
use lib.ListN.{length, get_or, take, drop, set}
use lib.Seq.{take-suc, split_at}
use Rattle.names.specs.Places.{ascends}
use Rattle.names.specs.Polymers.{polymer_of}
use Rattle.names.specs.Positions.{position_code}
use Rattle.field_slices.specs.Places.{pairs}
use Rattle.field_slices.proofs.MapLaws.{map_drop}
use Rattle.field_slices.proofs.PairLaws.{take_pairs, map_pairs}
use Rattle.model.specs.Keys.{chain_part}
use Rattle.model.specs.Records.{ResidueRecord}
use Rattle.model.specs.Termini.{position_by, is_first, is_last, ruled_position}
use Rattle.model.specs.Neighbours.{met_with, met_in, ends_chain, position_between}
use Rattle.model.proofs.TerminiLaws.{first_is, last_is}
use Rattle.finishing.specs.Filling.{filled}
use Rattle.finishing.specs.Positioning.{met_before, position_at}
use Rattle.finishing.proofs.FillingLaws.{field_at, filled_on}

-- ---- a turn of the walk
module _ (keys codes positions₀ : List ℕ) (n : ℕ) where
  -- the positions of the residues below i are stored
  pub record Positioning (positions : List ℕ) (met i : ℕ) : Type 0 where
    pub inside : i ≤ n
    pub stored : positions ≡ filled (position_at keys codes n) i positions₀
    pub met_so_far : met ≡ met_before keys codes i

  pub positioning_starts : Positioning positions₀ 0 0
  unfolding filled met_before
  positioning_starts = record { inside = omega arith; stored = refl; met_so_far = refl }

  pub positioning_on : {positions positions' : List ℕ} {met met' i key code position : ℕ} → Positioning positions met i → i < n
      → key ≡ get_or keys i 0 → code ≡ get_or codes i 0 → position ≡ position_between met key code (drop (i + 1) (take n (pairs keys codes)))
      → positions' ≡ set positions i position → met' ≡ met_with met key code → Positioning positions' met' (i + 1)
  unfolding position_at met_before
  positioning_on {positions} {positions'} {met} {met'} {i} {key} {code} {position} s h ek ec ep es em =
      let q : position ≡ position_at keys codes n i
      = ep ∙ (λ j. position_between (s.met_so_far j) (ek j) (ec j) (drop (add-one i j) (take n (pairs keys codes)))) in
      record {
        inside = omega arith;
        stored = filled_on (position_at keys codes n) i positions₀ s.stored (es ∙ ap (set positions i) q);
        met_so_far = em ∙ (λ j. met_with (s.met_so_far j) (ek j) (ec j)) ∙ ap (met_before keys codes) (sym (add-one i));
      }

  pub positioning_ends : {positions : List ℕ} {met i : ℕ} → Positioning positions met i → n ≤ i → positions ≡ filled (position_at keys codes n) n positions₀
  positioning_ends {positions} {met} {i} s h =
      let e : i ≡ n = omega (arith, s.inside) in
      s.stored ∙ ap (λ (j : ℕ). filled (position_at keys codes n) j positions₀) e

-- ---- what the walk says is what the rule says
met_behind : (met : ℕ) (l : List ResidueRecord) (r : ResidueRecord) → met_in met (l ++ (r ∷ [])) ≡ met_with (met_in met l) r.key r.code
unfolding met_in
met_behind met [] r = refl
met_behind met (t ∷ l) r = met_behind (met_with met t.key t.code) l r

-- what is read past the end
abbrev pub no_residue : ResidueRecord
no_residue = record { key = 0; name = 0; code = 0; category = 0; position = 0 }

module _ (keys codes : List ℕ) (n : ℕ) (residues : List ResidueRecord) (many : n ≡ length residues) (keys_held : take n keys ≡ map (λ r. r.key) residues)
    (codes_held : take n codes ≡ map (λ r. r.code) residues) (ascending : ascends (map (λ r. r.key) residues) ≡ true) where
  abbrev at : ℕ → ResidueRecord
  at i = get_or residues i no_residue

  key_at : (i : ℕ) → i < n → get_or keys i 0 ≡ (at i).key
  key_at = field_at (λ r. r.key) no_residue keys n residues keys_held

  code_at : (i : ℕ) → i < n → get_or codes i 0 ≡ (at i).code
  code_at = field_at (λ r. r.code) no_residue codes n residues codes_held

  met_is : (i : ℕ) → i ≤ n → met_before keys codes i ≡ met_in 0 (take i residues)
  unfolding met_before met_in
  met_is zero h = refl
  met_is (suc i) h =
      (λ j. met_with (met_is i (omega arith) j) (key_at i h j) (code_at i h j))
      ∙ sym (ap (met_in 0) (take-suc residues i no_residue (omega arith)) ∙ met_behind 0 (take i residues) (at i))

  after_is : (i : ℕ) → drop i (take n (pairs keys codes)) ≡ map (λ r. (r.key, r.code)) (drop i residues)
  after_is i =
      ap (drop i)
      (take_pairs n keys codes ∙ (λ j. pairs (keys_held j) (codes_held j)) ∙ map_pairs (λ (r : ResidueRecord). r.key) (λ (r : ResidueRecord). r.code) residues)
      ∙ sym (map_drop (λ (r : ResidueRecord). (r.key, r.code)) i residues)

  pub position_is : (i : ℕ) → i < n → position_at keys codes n i ≡ ruled_position residues (at i)
  unfolding position_at position_between ruled_position
  position_is i h =
      let r = at i in
      let e = split_at residues i no_residue (omega arith) in
      let a : ascends (map (λ t. t.key) (take i residues ++ r ∷ drop (suc i) residues)) ≡ true = rw e at ascending in
      let first : not (eqb (met_before keys codes i) (suc (chain_part (get_or keys i 0)))) ≡ is_first residues r
      = (λ j. not (eqb (met_is i (omega arith) j) (suc (chain_part (key_at i h j)))))
      ∙ sym (ap (λ (l : List ResidueRecord). is_first l r) e ∙ first_is (take i residues) r (drop (suc i) residues) a) in
      let last : ends_chain (chain_part (get_or keys i 0)) (drop (suc i) (take n (pairs keys codes))) ≡ is_last residues r
      = (λ j. ends_chain (chain_part (key_at i h j)) (after_is (suc i) j))
      ∙ sym (ap (λ (l : List ResidueRecord). is_last l r) e ∙ last_is (take i residues) r (drop (suc i) residues) a) in
      λ j. position_code (position_by (polymer_of (code_at i h j)) (first j) (last j))
