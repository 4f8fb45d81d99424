-- Where the looks say that a site's residue and atom are is where the model has them, so that the tests of room are the model's, and what is stored is its next step.
use Prim.{tt}
use mathlib.Core.Path.{◌≡◌, refl, sym, ap, ◌∙◌, subst}
use mathlib.Core.Bool.{Bool, true, false, cond, not}
use mathlib.Core.List.{List}
use mathlib.Core.Option.{Option, none, some}
use Prim.Native.Nat.{ℕ, suc, ◌+◌, ◌^◌, ◌≤◌, ◌<◌}
use native.Mathlib.Omega.{arith}
use lib.Dec.{leb, ltb}
use lib.ListN.{length, take, set, length-set}
use Rattle.rows.specs.declared.rules.Site.{Site}
use Rattle.field_slices.specs.Places.{pairs, below, Ascending, place_in}
use Rattle.field_slices.proofs.PairLaws.{map_pairs}
use Rattle.gapped_slices.specs.Areas.{Lies, entries_in}
use Rattle.gapped_slices.specs.declared.areas.Area.{Area}
use Rattle.model.specs.Chains.{chain_place, with_chain}
use Rattle.model.specs.Finished.{key_part, name_part}
use Rattle.model.specs.Fold.{Atom, State, start, first, greater, outdone_with, step}
use Rattle.model.specs.Keys.{residue_key, atom_place, residue_at, atom_at}
use Rattle.model.specs.Lists.{count}
use Rattle.model.specs.Map.{Entry, Map, find, is_none, put}
use Rattle.model.specs.Proper.{Proper}
use Rattle.model.specs.declared.room.Room.{Room}
use Rattle.model.specs.Room.{Fits, no_room, first_lack, lacking}
use Rattle.model.specs.Taken.{skipped, site}
use Rattle.model.proofs.MapLaws.{length_put}
use Rattle.building.specs.declared.held.Held.{Held}
use Rattle.std.specs.Prelude.{None, Result, Ok, Err, is_ok, is_err}
use Rattle.building.specs.declared.sites.Places.{Places}
use Rattle.building.specs.declared.stores.Store.{Store}
use Rattle.building.specs.Gaps.{none_held, residues_in, atoms_in, HoldsApart}
use Rattle.building.specs.Holds.{Records, Within, SameLengths, HoldsChains}
use Rattle.building.specs.Kinds.{ResiduesIn, ResiduesLong, ResiduesSame, AtomsIn, AtomsLong, AtomsSame}
use Rattle.building.specs.Sites.{is_new_chain, SoughtFor, lack_of, one_more, counts_with, with_skipped}
use Rattle.building.specs.Slices.{ChainFound}
use Rattle.building.specs.Stores.{Apart, keys_of, sought_by, Puts}
use Rattle.building.proofs.AtomPlaces.{split, splits, parts, place_split, ascending_split}
use Rattle.building.proofs.AtomStores.{no_atoms}
use Rattle.building.proofs.ChainsHeld.{place_with, chain_is, chain_within, chain_put}
use Rattle.building.proofs.CountLaws.{more_counted, all_have_room}
use Rattle.building.proofs.MapPlaces.{keys_ascend}
use Rattle.building.proofs.MetAgain.{new_says}
use Rattle.building.proofs.ResidueStores.{no_residues}
use Rattle.building.proofs.RoomInSlices.{room_beside, within, chain_room, room_stays}
use Rattle.building.proofs.StoreLaws.{lies_main, lies_pocket, apart_none}

-- ---- counts
outdone_by : (o : Option Atom) (n : ℕ) → cond (not (is_none o)) (suc n) n ≡ outdone_with o n
outdone_by none n = refl
outdone_by (some a) n = refl

ok_not : (r : Result ℕ ℕ) → is_ok r ≡ not (is_err r)
ok_not (Ok i) = refl
ok_not (Err i) = refl

outdone_within : (o : Option Atom) (n rows : ℕ) → n ≤ rows → outdone_with o n ≤ suc rows
outdone_within none n rows h = omega arith
outdone_within (some a) n rows h = omega arith

assumed_by : (b : Bool) (n : ℕ) → cond b (suc n) n ≡ n + count b
assumed_by true n = omega arith
assumed_by false n = omega arith

assumed_within : (b : Bool) (n rows : ℕ) → n ≤ rows → n + count b ≤ suc rows
assumed_within true n rows h = omega arith
assumed_within false n rows h = omega arith

-- ---- the first model, and a skipped row
pub start_held : (r : Records) (room : Room) → Within room r → HoldsApart r room none_held start
start_held r room w = record {
  within = w;
  chains = record { many = refl; distinct = tt; names_held = refl };
  residues = apart_none (ResiduesIn (residues_in r)) room.residues (no_residues (residues_in r));
  atoms = apart_none (AtomsIn (atoms_in r)) room.atoms (no_atoms (atoms_in r));
  fits = record { chains = omega arith; residues = omega arith; atoms = omega arith };
  counted = record {
    residues = refl;
    atoms = refl;
    rows = refl;
    skipped = refl;
    outdone = refl;
    assumed = refl;
    skipped_rows = omega arith;
    outdone_rows = omega arith;
    assumed_rows = omega arith;
  };
}

pub skipped_held : (r : Records) (room : Room) (h : Held) (st : State) → HoldsApart r room h st → suc st.rows < 2 ^ 64 → HoldsApart r room (with_skipped h) (step st skipped)
unfolding step
skipped_held r room h st a few =
    let m = a.counted in
    let c = h.counts in
    record {
      within = a.within;
      chains = a.chains;
      residues = a.residues;
      atoms = a.atoms;
      fits = record { chains = a.fits.chains; residues = a.fits.residues; atoms = a.fits.atoms };
      counted = record {
        residues = m.residues;
        atoms = m.atoms;
        rows = more_counted c.rows true (omega (arith, m.rows, few)) ∙ ap suc m.rows;
        skipped = more_counted c.skipped true (omega (arith, m.skipped, m.skipped_rows, few)) ∙ ap suc m.skipped;
        outdone = m.outdone;
        assumed = m.assumed;
        skipped_rows = omega (arith, m.skipped_rows);
        outdone_rows = omega (arith, m.outdone_rows);
        assumed_rows = omega (arith, m.assumed_rows);
      };
    }

-- ---- no slice is longer or shorter
pub lengths_after : (r after : Records) (place name : ℕ) → after.chains ≡ set r.chains place name → ResiduesSame (residues_in r) (residues_in after) → AtomsSame (atoms_in r) (atoms_in after)
    → SameLengths r after
lengths_after r after place name e residues atoms = record {
  chains = ap length e ∙ length-set r.chains place name;
  residue_keys = residues.keys;
  residue_names = residues.names;
  residue_marks = residues.marks;
  atom_keys = atoms.keys;
  atom_names = atoms.names;
  elements = atoms.elements;
  positions = atoms.positions;
  occupancies = atoms.occupancies;
}

module _ (r : Records) (room : Room) (h : Held) (s : Site) (p : Places) (place : ℕ) (found : ChainFound (take h.counts.chains r.chains) s.chain place)
    (sought : SoughtFor (residues_in r) (atoms_in r) h place s p)
    (st : State) (a : HoldsApart r room h st) (w : Proper s) where
  abbrev chains : List ℕ
  chains = with_chain s.chain st.chains

  -- ---- the chain
  f : ChainFound (take h.counts.chains r.chains) s.chain p.chain
  f = subst (ChainFound (take h.counts.chains r.chains) s.chain) (sym sought.chain) found

  place_of_chain : p.chain ≡ chain_place s.chain st.chains
  place_of_chain = chain_is r.chains h.counts.chains st.chains s.chain p.chain a.chains f

  small : p.chain ≤ 4096
  small =
      omega (
        arith,
        chain_within r.chains h.counts.chains st.chains s.chain p.chain a.chains f,
        a.chains.many,
        a.fits.chains,
        a.within.sizes.0,
      )

  key_is : p.key ≡ residue_at chains s
  unfolding residue_at
  key_is = sought.key small ∙ ap (λ (x : ℕ). residue_key x s.sequence s.insertion_code) (place_of_chain ∙ sym (place_with s.chain st.chains))

  -- ---- the residue
  residues_long : ResiduesLong (residues_in r) room.residues
  residues_long = record { keys = a.within.residues.0; names = a.within.residues.1; marks = a.within.residues.2 }

  residue_sought : p.residue ≡ sought_by h.residues (place_in ltb p.key (keys_of a.residues.first)) (place_in ltb p.key (keys_of a.residues.second))
  residue_sought =
      let n = length r.residue_keys in
      let l = a.residues.lays in
      let main = a.residues.main.fields.keys_held in
      let pocket = a.residues.pocket.fields.keys_held in
      sought.residue (lies_main room.residues h.residues l n residues_long.keys) (lies_pocket room.residues h.residues l n residues_long.keys)
      (subst (Ascending ltb) (sym main) (keys_ascend 0 a.residues.first a.residues.main.ascending)) (subst (Ascending ltb) (sym pocket) (keys_ascend 0 a.residues.second a.residues.pocket.ascending))
      ∙ (λ i. sought_by h.residues (place_in ltb p.key (main i)) (place_in ltb p.key (pocket i)))

  residue_new : is_err p.residue ≡ is_none (find (residue_at chains s) st.residues)
  residue_new =
      ap (λ (t : Result ℕ ℕ). is_err t) residue_sought
      ∙ new_says p.key (first s) (ResiduesIn (residues_in r)) room.residues h.residues st.residues a.residues
      ∙ ap (λ (k : ℕ). is_none (find k st.residues)) key_is

  -- ---- the atom
  atoms_long : AtomsLong (atoms_in r) room.atoms
  atoms_long = record { keys = a.within.atoms.0; names = a.within.atoms.1; elements = a.within.atoms.2; positions = a.within.atoms.3; occupancies = a.within.atoms.4 }

  abbrev k : ℕ
  k = atom_place p.key s.atom

  atom_is : k ≡ atom_at chains s
  unfolding atom_at
  atom_is = ap (λ (x : ℕ). atom_place x s.atom) key_is

  split_is : ◌≡◌ {A = ℕ × ℕ} (p.key, s.atom) (split k)
  split_is = let q = parts p.key s.atom w.atom in λ i. (sym q.0 i, sym q.1 i)

  both_held : (b : Area) (m : Map Atom) → AtomsIn (atoms_in r) b m → pairs (entries_in b r.atom_keys) (entries_in b r.atom_names) ≡ splits m
  both_held b m i = (λ j. pairs (i.keys_held j) (i.names_held j)) ∙ map_pairs (λ (e : Entry Atom). key_part e.key) (λ (e : Entry Atom). name_part e.key) m

  place_of_atom : (b : Area) (m : Map Atom) → AtomsIn (atoms_in r) b m → place_in below (p.key, s.atom) (pairs (entries_in b r.atom_keys) (entries_in b r.atom_names)) ≡ place_in ltb k (keys_of m)
  place_of_atom b m i = ap (place_in below (p.key, s.atom)) (both_held b m i) ∙ ap (λ (q : ℕ × ℕ). place_in below q (splits m)) split_is ∙ place_split k m

  atom_sought : p.atom ≡ sought_by h.atoms (place_in ltb k (keys_of a.atoms.first)) (place_in ltb k (keys_of a.atoms.second))
  atom_sought =
      let l = a.atoms.lays in
      let lies : (n : ℕ) → room.atoms ≤ n → Lies h.atoms.main n = λ n long. lies_main room.atoms h.atoms l n long in
      let under : (n : ℕ) → room.atoms ≤ n → Lies h.atoms.pocket n = λ n long. lies_pocket room.atoms h.atoms l n long in
      let ascends : (b : Area) (m : Map Atom) → AtomsIn (atoms_in r) b m → Ascending ltb (keys_of m) → Ascending below (pairs (entries_in b r.atom_keys) (entries_in b r.atom_names))
      = λ b m i up. subst (Ascending below) (sym (both_held b m i)) (ascending_split m up) in
      let main = a.atoms.main in
      let pocket = a.atoms.pocket in
      sought.atom (lies (length r.atom_keys) atoms_long.keys) (lies (length r.atom_names) atoms_long.names) (under (length r.atom_keys) atoms_long.keys) (under (length r.atom_names) atoms_long.names)
      (ascends h.atoms.main a.atoms.first main.fields (keys_ascend 0 a.atoms.first main.ascending))
      (ascends h.atoms.pocket a.atoms.second pocket.fields (keys_ascend 0 a.atoms.second pocket.ascending))
      ∙ (λ i. sought_by h.atoms (place_of_atom h.atoms.main a.atoms.first main.fields i) (place_of_atom h.atoms.pocket a.atoms.second pocket.fields i))

  atom_new : is_err p.atom ≡ is_none (find (atom_at chains s) st.atoms)
  atom_new =
      ap (λ (t : Result ℕ ℕ). is_err t) atom_sought
      ∙ new_says k (greater s) (AtomsIn (atoms_in r)) room.atoms h.atoms st.atoms a.atoms
      ∙ ap (λ (x : ℕ). is_none (find x st.atoms)) atom_is

  -- ---- room
  pub lack_is : lack_of room h.counts p ≡ lacking room st (site s)
  unfolding lack_of lacking
  lack_is =
      let c = h.counts in
      let e1 : no_room (is_new_chain c p) room.chains c.chains ≡ no_room (leb (length st.chains) (chain_place s.chain st.chains)) room.chains (length st.chains)
      = λ i. no_room (leb (a.chains.many i) (place_of_chain i)) room.chains (a.chains.many i) in
      let e2 : no_room (is_err p.residue) room.residues c.residues ≡ no_room (is_none (find (residue_at chains s) st.residues)) room.residues (length st.residues)
      = λ i. no_room (residue_new i) room.residues (a.counted.residues i) in
      let e3 : no_room (is_err p.atom) room.atoms c.atoms ≡ no_room (is_none (find (atom_at chains s) st.atoms)) room.atoms (length st.atoms)
      = λ i. no_room (atom_new i) room.atoms (a.counted.atoms i) in
      λ i. first_lack (e1 i) (e2 i) (e3 i)

  -- ---- what is stored
  module _ (roomy : lack_of room h.counts p ≡ None) (after : Records) (chains-are : after.chains ≡ set r.chains place s.chain) (residues atoms : Store)
      (residue-put : Puts (ResiduesSame (residues_in r) (residues_in after)) (ResiduesLong (residues_in r)) (ResiduesIn (residues_in r)) (ResiduesIn (residues_in after)) room.residues h.residues p.residue p.key (first s) residues)
      (atom-put : Puts (AtomsSame (atoms_in r) (atoms_in after)) (AtomsLong (atoms_in r)) (AtomsIn (atoms_in r)) (AtomsIn (atoms_in after)) room.atoms h.atoms p.atom k (greater s) atoms) where
    rooms : (no_room (is_new_chain h.counts p) room.chains h.counts.chains ≡ false) × (no_room (is_err p.residue) room.residues h.counts.residues ≡ false)
        × (no_room (is_err p.atom) room.atoms h.counts.atoms ≡ false)
    rooms = all_have_room room h.counts p roomy

    chains_after : HoldsChains after.chains (cond (is_new_chain h.counts p) (suc h.counts.chains) h.counts.chains) chains
    chains_after =
        subst (λ (l : List ℕ). HoldsChains l (cond (is_new_chain h.counts p) (suc h.counts.chains) h.counts.chains) chains) (sym (chains-are ∙ ap (λ (x : ℕ). set r.chains x s.chain) (sym sought.chain)))
        (chain_put r.chains h.counts.chains st.chains s.chain p.chain a.chains f
        (λ t. chain_room room r a.within h.counts.chains (room_beside (is_new_chain h.counts p) room.chains h.counts.chains rooms.0 t)))

    -- ---- how many there are then
    residues_many : length (put (residue_at chains s) (first s) st.residues) ≡ cond (is_err p.residue) (suc h.counts.residues) h.counts.residues
    residues_many = length_put (residue_at chains s) (first s) st.residues ∙ (λ i. cond (sym residue_new i) (suc (sym a.counted.residues i)) (sym a.counted.residues i))

    atoms_many : length (put (atom_at chains s) (greater s) st.atoms) ≡ cond (is_err p.atom) (suc h.counts.atoms) h.counts.atoms
    atoms_many = length_put (atom_at chains s) (greater s) st.atoms ∙ (λ i. cond (sym atom_new i) (suc (sym a.counted.atoms i)) (sym a.counted.atoms i))

    fits_after : Fits room (step st (site s))
    unfolding step
    fits_after = record {
      chains =
          subst (λ (z : ℕ). z ≤ room.chains) chains_after.many
          (within (is_new_chain h.counts p) room.chains h.counts.chains rooms.0 (omega (arith, a.chains.many, a.fits.chains)));
      residues =
          subst (λ (z : ℕ). z ≤ room.residues) (sym residues_many)
          (within (is_err p.residue) room.residues h.counts.residues rooms.1 (omega (arith, a.counted.residues, a.fits.residues)));
      atoms =
          subst (λ (z : ℕ). z ≤ room.atoms) (sym atoms_many)
          (within (is_err p.atom) room.atoms h.counts.atoms rooms.2 (omega (arith, a.counted.atoms, a.fits.atoms)));
    }

    -- ---- the theorem
    pub site_held : suc st.rows < 2 ^ 64 → HoldsApart after room (record { counts = counts_with h.counts p s.assumed; residues = residues; atoms = atoms }) (step st (site s))
    unfolding step
    site_held few =
        let c = h.counts in
        let m = a.counted in
        let few-chains : c.chains ≤ 4096 = omega (arith, a.chains.many, a.fits.chains, a.within.sizes.0) in
        let few_residues : c.residues ≤ 65536 = omega (arith, m.residues, a.fits.residues, a.within.sizes.1) in
        let few_atoms : c.atoms ≤ 1048576 = omega (arith, m.atoms, a.fits.atoms, a.within.sizes.2) in
        record {
          within = room_stays room r after (lengths_after r after place s.chain chains-are residue-put.same atom-put.same) a.within;
          chains = subst (λ (n : ℕ). HoldsChains after.chains n chains) (sym (more_counted c.chains (is_new_chain c p) (omega (arith, few-chains)))) chains_after;
          residues =
              subst (λ (x : ℕ). Apart (ResiduesIn (residues_in after)) room.residues residues (put x (first s) st.residues)) key_is
              (residue-put.apart st.residues residues_long a.residues residue_sought (λ t. omega (arith, room_beside (is_err p.residue) room.residues c.residues rooms.1 t, m.residues)));
          atoms =
              subst (λ (x : ℕ). Apart (AtomsIn (atoms_in after)) room.atoms atoms (put x (greater s) st.atoms)) atom_is
              (atom-put.apart st.atoms atoms_long a.atoms atom_sought (λ t. omega (arith, room_beside (is_err p.atom) room.atoms c.atoms rooms.2 t, m.atoms)));
          fits = fits_after;
          counted = record {
            residues = more_counted c.residues (is_err p.residue) (omega (arith, few_residues)) ∙ sym residues_many;
            atoms = more_counted c.atoms (is_err p.atom) (omega (arith, few_atoms)) ∙ sym atoms_many;
            rows = more_counted c.rows true (omega (arith, m.rows, few)) ∙ ap suc m.rows;
            skipped = m.skipped;
            outdone =
                ap (λ (t : Bool). one_more t c.outdone) (ok_not p.atom) ∙ more_counted c.outdone (not (is_err p.atom)) (omega (arith, m.outdone, m.outdone_rows, few))
                ∙ (λ i. cond (not (atom_new i)) (suc (m.outdone i)) (m.outdone i))
                ∙ outdone_by (find (atom_at chains s) st.atoms) st.outdone;
            assumed =
                more_counted c.assumed s.assumed (omega (arith, m.assumed, m.assumed_rows, few))
                ∙ (λ i. cond s.assumed (suc (m.assumed i)) (m.assumed i))
                ∙ assumed_by s.assumed st.assumed;
            skipped_rows = omega (arith, m.skipped_rows);
            outdone_rows = outdone_within (find (atom_at chains s) st.atoms) st.outdone st.rows m.outdone_rows;
            assumed_rows = assumed_within s.assumed st.assumed st.rows m.assumed_rows;
          };
        }
