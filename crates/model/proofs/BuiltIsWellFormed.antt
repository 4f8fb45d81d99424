-- What is built of sound rows is well formed: the rules say of each entry which row names it, and what the row says is sound.
use mathlib.Core.Path.{◌≡◌, refl, sym, ap, ◌∙◌, subst}
use mathlib.Core.Bool.{Bool, true, false, not, ◌&&◌}
use mathlib.Core.Logic.{◌⊎◌, inl, inr}
use mathlib.Core.List.{List, [], ◌∷◌, map, map-map, Memᴰ}
use mathlib.Core.Option.{some, none-ne-some, some-injective}
use Prim.Native.Nat.{ℕ, zero, suc, ◌+◌, ◌≤◌, ◌<◌}
use native.Mathlib.Nat.{le_refl}
use native.Mathlib.Omega.{arith}
use lib.Dec.{eqb, leb}
use lib.ListN.{length}
use borrow.Author.Tests.{eqb-true, eqb-false, eq-eqb, le-leb}
use Rattle.ascii.specs.Bytes.{bytes}
use Rattle.names.specs.Packing.{packed}
use Rattle.names.specs.Places.{ascends}
use Rattle.rows.specs.declared.rules.Site.{Site}
use Rattle.model.specs.declared.classes.Class.{Class}
use Rattle.model.specs.Chains.{chain_place}
use Rattle.model.specs.Classes.{is_lone}
use Rattle.model.specs.Finished.{known, key_part, name_part, atom_record, classified, positioned, all_positioned, model_from, finished_of}
use Rattle.model.specs.Fold.{Residue, Atom, State, residue_of, atom_of, start, model_of}
use Rattle.model.specs.Keys.{atom_place, residue_at, atom_at, chain_part, code_part}
use Rattle.model.specs.Lent.{list_from}
use Rattle.model.specs.Lists.{filter, All}
use Rattle.model.specs.Map.{Entry, find}
use Rattle.model.specs.Proper.{Proper}
use Rattle.model.specs.Records.{ResidueRecord, AtomRecord, Model}
use Rattle.model.specs.Rules.{same_residue, same_atom, first_met, first_of, Ruled}
use Rattle.model.specs.Sound.{Sound}
use Rattle.model.specs.Taken.{Taken, sites}
use Rattle.ascii.specs.Lists.{every}
use Rattle.model.specs.WellFormed.{is_name, is_code, is_near, differ, runs_of, chains_well, class_well, residue_well, atom_well, in_runs, in_order, well_formed}
use Rattle.model.proofs.AscendingLaws.{map_ascends}
use Rattle.model.proofs.ChainsDiffer.{chains_differ, chain_of_row, place_within, chain_at}
use Rattle.model.proofs.ChainsFirstMet.{Met, met_after, all_met}
use Rattle.model.proofs.EveryLaws.{every_of, every_map}
use Rattle.model.proofs.FoldKeepsRules.{fold_keeps_rules}
use Rattle.model.proofs.FoldParts.{chains_after}
use Rattle.model.proofs.KeysGiveBack.{chain_of_key, code_of_key, key_of_place, name_of_place, whole_place}
use Rattle.model.proofs.ListLaws.{both, all_at, all_of, all_map, mem_middle, filter_mem}
use Rattle.model.proofs.MapLaws.{found_entry, entry_found}
use Rattle.model.proofs.RulingsStay.{class_again, class_is_named, position_again}
use Rattle.model.proofs.RunsLaws.{AscendsFrom, runs_are, same_list_lem, keys_ascend}
use Rattle.model.proofs.UnknownIsFirst.{known_has_none}
use Rattle.model.proofs.WalkLaws.{rising_by, keys_of_entries}

-- ---- the places from i on
places_ascend : (i n : ℕ) → AscendsFrom i (list_from (λ j. j) i n)
unfolding list_from
places_ascend i zero = tt
places_ascend i (suc n) = (le_refl i, places_ascend (suc i) n)

place_in : (i n x : ℕ) → i ≤ x → x < i + n → Memᴰ x (list_from (λ j. j) i n)
unfolding list_from
place_in i zero x h k = absurd (omega arith)
place_in i (suc n) x h k = go (eqb x i) refl (λ w. place_in (suc i) n x w (omega arith))
  where
    go : (t : Bool) → eqb x i ≡ t → (suc i ≤ x → Memᴰ x (list_from (λ j. j) (suc i) n)) → Memᴰ x (i ∷ list_from (λ j. j) (suc i) n)
    go true e r = mathlib.Core.List.Memᴰ.head (eqb-true x i e)
    go false e r = mathlib.Core.List.Memᴰ.tail (r (omega (arith, apart)))
      where
        apart : x ≡ i → ⊥
        apart = eqb-false x i e

pub in_place : (i n x : ℕ) → Memᴰ x (list_from (λ j. j) i n) → x < i + n
unfolding list_from
in_place i zero x d = absurd (mathlib.Core.List.Memᴰ.not-nil d)
in_place i (suc n) x d = go (in_place (suc i) n x) (mathlib.Core.List.Memᴰ.cases_cons d)
  where
    go : (Memᴰ x (list_from (λ j. j) (suc i) n) → x < suc i + n) → (x ≡ i) ⊎ Memᴰ x (list_from (λ j. j) (suc i) n) → x < i + suc n
    go r (inl e) = omega arith
    go r (inr m) = omega (arith, r m)

-- ---- what the rules leave at a key comes from a row
first_row_lem : (l : List Site) (w : Residue) → first_of l ≡ some w → (t : Site) × Memᴰ t l × (w ≡ residue_of t)
first_row_lem [] w e = absurd (none-ne-some _ e)
first_row_lem (t ∷ l) w e = (t, mathlib.Core.List.Memᴰ.head refl, sym (some-injective (residue_of t) w e))

module _ (l : List Taken) (sound : All Sound (sites l)) where
  abbrev st : State
  st = model_of l

  abbrev atoms : List AtomRecord
  atoms = map atom_record st.atoms

  abbrev residues : List ResidueRecord
  residues = map (classified atoms) st.residues

  proper : (s : Site) → Memᴰ s (sites l) → Proper s
  proper s m = (all_at Sound (sites l) s sound m).proper

  rules : Ruled l st
  rules = fold_keeps_rules l (all_map Sound Proper (λ s p. p.proper) (sites l) sound)

  met : (s : Site) → Memᴰ s (sites l) → Met st.chains s.chain
  met s m = subst (λ (c : List ℕ). Met c s.chain) (sym (chains_after start l)) (all_at (λ s. Met (met_after [] (sites l)) s.chain) (sites l) s (all_met [] (sites l)) m)

  -- ---- chains
  chain_well : (c : ℕ) → Memᴰ c (first_met (sites l)) → (is_name c && not (eqb c (packed (bytes ".")))) ≡ true
  chain_well c m =
      let s = chain_of_row (sites l) c m in
      let p = all_at Sound (sites l) s.0 sound s.1 in
      subst (λ (n : ℕ). (is_name n && not (eqb n (packed (bytes ".")))) ≡ true) (sym s.2) (both _ _ p.chain (ap not p.no_point))

  chains_well_lem : chains_well st.chains ≡ true
  unfolding chains_well
  chains_well_lem =
      subst (λ (c : List ℕ). chains_well c ≡ true) (sym rules.chains)
      (both _ _ (chains_differ (sites l)) (every_of (λ c. is_name c && not (eqb c (packed (bytes ".")))) (first_met (sites l)) chain_well))

  -- ---- runs and order
  residue_there : (s : Site) → Memᴰ s (sites l) → (w : Residue) × Memᴰ (record { key = residue_at st.chains s; value = w }) st.residues
  residue_there s m = let v = rules.residues.every s m in (v.0, found_entry (residue_at st.chains s) v.0 st.residues v.1)

  atom_there : (s : Site) → Memᴰ s (sites l) → (w : Atom) × Memᴰ (record { key = atom_at st.chains s; value = w }) st.atoms
  atom_there s m = let v = rules.atoms.every s m in (v.0, found_entry (atom_at st.chains s) v.0 st.atoms v.1)

  residue_parts : (f : ℕ → ℕ) → map (λ r. f r.key) (all_positioned residues) ≡ map (λ e. f e.key) st.residues
  residue_parts f =
      map-map (λ r. f r.key) (positioned residues) residues
      ∙ map-map (λ r. f r.key) (classified atoms) st.residues

  residue_runs : runs_of (map (λ r. chain_part r.key) (all_positioned residues)) ≡ list_from (λ i. i) 0 (length st.chains)
  residue_runs =
      ap runs_of (residue_parts chain_part)
      ∙ runs_are 0 0 (map (λ e. chain_part e.key) st.residues) (list_from (λ i. i) 0 (length st.chains))
      (rising_by (λ e. Unit) (λ e. e.key) (λ e. chain_part e.key) (λ e d h k. omega arith) st.residues
      (all_of (λ e. Unit) st.residues (λ e d. tt)) (map_ascends st.residues rules.residues.ascending))
      (places_ascend 0 (length st.chains)) placed peopled
    where
      placed : (x : ℕ) → Memᴰ x (map (λ e. chain_part e.key) st.residues) → Memᴰ x (list_from (λ i. i) 0 (length st.chains))
      placed x d =
          let e = mathlib.Core.List.Memᴰ.of_map (λ e. chain_part e.key) st.residues d in
          let s = rules.residues.only e.0 e.1 in
          let q : x ≡ chain_place s.0.chain st.chains = sym e.2 ∙ ap chain_part s.2 ∙ chain_of_key st.chains s.0 (proper s.0 s.1) in
          place_in 0 (length st.chains) x (omega arith) (omega (arith, q, place_within s.0.chain st.chains (met s.0 s.1)))

      peopled : (x : ℕ) → Memᴰ x (list_from (λ i. i) 0 (length st.chains)) → Memᴰ x (map (λ e. chain_part e.key) st.residues)
      peopled x d =
          let c = chain_at st.chains (subst (λ (n : List ℕ). differ n ≡ true) (sym rules.chains) (chains_differ (sites l))) x (omega (arith, in_place 0 (length st.chains) x d)) in
          let s = chain_of_row (sites l) c.0 (subst (Memᴰ c.0) rules.chains c.1) in
          mathlib.Core.List.Memᴰ.cast (sym (chain_of_key st.chains s.0 (proper s.0 s.1) ∙ ap (λ (n : ℕ). chain_place n st.chains) (sym s.2) ∙ c.2))
          (mathlib.Core.List.Memᴰ.map (λ e. chain_part e.key) (residue_there s.0 s.1).1)

  atom_runs : runs_of (map (λ a. a.key) atoms) ≡ map (λ r. r.key) (all_positioned residues)
  atom_runs =
      runs_are 0 0 (map (λ a. a.key) atoms) (map (λ e. e.key) st.residues)
      (keys_of_entries st.atoms rules.atoms.ascending) (keys_ascend 0 st.residues rules.residues.ascending) housed peopled
      ∙ sym (residue_parts (λ k. k))
    where
      keys : map (λ a. a.key) atoms ≡ map (λ e. key_part e.key) st.atoms
      keys = map-map (λ a. a.key) atom_record st.atoms

      housed : (x : ℕ) → Memᴰ x (map (λ a. a.key) atoms) → Memᴰ x (map (λ e. e.key) st.residues)
      housed x d =
          let a = mathlib.Core.List.Memᴰ.of_map (λ e. key_part e.key) st.atoms (subst (Memᴰ x) keys d) in
          let s = rules.atoms.only a.0 a.1 in
          mathlib.Core.List.Memᴰ.cast (sym a.2 ∙ ap key_part s.2 ∙ key_of_place st.chains s.0 (proper s.0 s.1)) (mathlib.Core.List.Memᴰ.map (λ e. e.key) (residue_there s.0 s.1).1)

      peopled : (x : ℕ) → Memᴰ x (map (λ e. e.key) st.residues) → Memᴰ x (map (λ a. a.key) atoms)
      peopled x d =
          let e = mathlib.Core.List.Memᴰ.of_map (λ e. e.key) st.residues d in
          let s = rules.residues.only e.0 e.1 in
          subst (Memᴰ x) (sym keys)
          (mathlib.Core.List.Memᴰ.cast (sym e.2 ∙ s.2 ∙ sym (key_of_place st.chains s.0 (proper s.0 s.1))) (mathlib.Core.List.Memᴰ.map (λ e. key_part e.key) (atom_there s.0 s.1).1))

  in_runs_lem : in_runs (model_from st) ≡ true
  unfolding in_runs
  in_runs_lem = both _ _ (same_list_lem _ _ residue_runs) (same_list_lem _ _ atom_runs)

  in_order_lem : in_order (model_from st) ≡ true
  unfolding in_order
  in_order_lem =
      both _ _ (ap ascends (residue_parts (λ k. k)) ∙ map_ascends st.residues rules.residues.ascending)
      (ap ascends (map-map (λ a. atom_place a.key a.name) atom_record st.atoms ∙ (λ i. map (λ e. whole_place e.key i) st.atoms))
      ∙ map_ascends st.atoms rules.atoms.ascending)

  -- ---- residues
  raw_name : (e : Entry Residue) → Memᴰ e st.residues → is_name e.value.name ≡ true
  raw_name e m =
      let s = rules.residues.only e m in
      let v = rules.residues.every s.0 s.1 in
      let t = first_row_lem (filter (same_residue s.0) (sites l)) v.0 v.2 in
      let q : e.value ≡ v.0 = some-injective _ _ (sym (entry_found 0 st.residues e rules.residues.ascending m) ∙ ap (λ (k : ℕ). find k st.residues) s.2 ∙ v.1) in
      subst (λ (r : Residue). is_name r.name ≡ true) (sym (q ∙ t.2)) (all_at Sound (sites l) t.0 sound (filter_mem (same_residue s.0) (sites l) t.0 t.1).0).residue

  code_well : (e : Entry Residue) → Memᴰ e st.residues → is_code (code_part e.key) ≡ true
  code_well e m =
      let s = rules.residues.only e m in
      subst (λ (b : ℕ). is_code b ≡ true) (sym (ap code_part s.2 ∙ code_of_key st.chains s.0 (proper s.0 s.1))) (all_at Sound (sites l) s.0 sound s.1).code

  class_well_lem : (e : Entry Residue) → class_well atoms (positioned residues (classified atoms e)) ≡ true
  unfolding class_well
  class_well_lem e =
      let again = sym (class_again e.value.name (is_lone atoms e.key)) in
      both _ _ (both _ _ (eq-eqb _ _ (ap (λ (c : Class). c.name) again)) (eq-eqb _ _ (ap (λ (c : Class). c.code) again))) (eq-eqb _ _ (ap (λ (c : Class). c.category) again))

  residue_well_lem : (e : Entry Residue) → Memᴰ e st.residues → residue_well (model_from st) (positioned residues (classified atoms e)) ≡ true
  unfolding residue_well
  residue_well_lem e m =
      both _ _ (both _ _ (both _ _ (class_is_named e.value.name (is_lone atoms e.key) (raw_name e m)) (code_well e m)) (class_well_lem e))
      (eq-eqb _ _ (sym (position_again residues (classified atoms e))))

  residues_well_lem : every (residue_well (model_from st)) (all_positioned residues) ≡ true
  residues_well_lem =
      every_map (residue_well (model_from st)) (positioned residues) residues (λ r d.
      let e = mathlib.Core.List.Memᴰ.of_map (classified atoms) st.residues d in
      subst (λ (r : ResidueRecord). residue_well (model_from st) (positioned residues r) ≡ true) e.2 (residue_well_lem e.0 e.1))

  -- ---- atoms
  atom_well_lem : (a : Entry Atom) → Memᴰ a st.atoms → atom_well (atom_record a) ≡ true
  unfolding atom_well
  atom_well_lem a m =
      let s = rules.atoms.only a m in
      let v = rules.atoms.every s.0 s.1 in
      let t = v.2.0 in
      let k = v.2.1 in
      let q : a.value ≡ atom_of t = some-injective _ _ (sym (entry_found 0 st.atoms a rules.atoms.ascending m) ∙ ap (λ (k : ℕ). find k st.atoms) s.2 ∙ v.1) ∙ v.2.2 in
      let there : Memᴰ t (filter (same_atom s.0) (sites l)) = subst (Memᴰ t) (sym k.among) (mem_middle k.before t k.after) in
      let p = all_at Sound (sites l) t sound (filter_mem (same_atom s.0) (sites l) t there).0 in
      both _ _ (both _ _
      (subst (λ (n : ℕ). is_name n ≡ true) (sym (ap name_part s.2 ∙ name_of_place st.chains s.0 (proper s.0 s.1))) (all_at Sound (sites l) s.0 sound s.1).atom)
      (subst (λ (b : Atom). leb b.element 118 ≡ true) (sym q) (le-leb t.element 118 (omega (arith, p.element)))))
      (subst (λ (b : Atom). is_near b.position ≡ true) (sym q) p.near)

  -- ---- the theorem
  built_so : well_formed (model_from st) ≡ true
  unfolding well_formed
  built_so = both _ _ (both _ _ (both _ _ (both _ _ chains_well_lem in_runs_lem) in_order_lem) residues_well_lem) (every_map atom_well atom_record st.atoms atom_well_lem)

  pub built_is_well_formed : (m : Model) → finished_of st ≡ known m → well_formed m ≡ true
  built_is_well_formed m e = subst (λ (n : Model). well_formed n ≡ true) ((known_has_none st m).0 e).1 built_so
