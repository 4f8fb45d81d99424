-- The rows of a well-formed model's atoms leave that model: its chains come in runs whose names differ, its residues and atoms ascend, and no atom has two rows.
use mathlib.Core.Path.{◌≡◌, refl, sym, ap, ◌∙◌, subst}
use mathlib.Core.Bool.{not}
use mathlib.Core.List.{List, [], ◌∷◌, map, map-map, Memᴰ}
use Prim.Native.Nat.{ℕ, ◌^◌, ◌≤◌, ◌<◌}
use native.Mathlib.Omega.{arith}
use lib.ListN.{length, get_or, length-map}
use Rattle.rows.specs.Rules.{one}
use Rattle.rows.specs.declared.rules.Site.{Site}
use Rattle.model.specs.Fold.{Residue, Atom, State, first, greater, start, model_of}
use Rattle.model.specs.Keys.{residue_key, chain_part, sequence_part, code_part, atom_place, residue_at, atom_at}
use Rattle.model.specs.Lent.{list_from}
use Rattle.model.specs.Lists.{All}
use Rattle.model.specs.Map.{Entry}
use Rattle.model.specs.Records.{ResidueRecord, AtomRecord, Model}
use Rattle.model.specs.Rules.{assumed_in}
use Rattle.model.specs.Taken.{Taken, site, sites, skipped_in}
use Rattle.model.specs.Termini.{is_polymer}
use Rattle.model.specs.WellFormed.{runs_of, differ}
use Rattle.model.proofs.BuiltMaps.{build}
use Rattle.model.proofs.ChainsFirstMet.{met_after}
use Rattle.model.proofs.FoldParts.{chains_after, residues_after, atoms_after, rows_counted, skipped_counted, assumed_counted, rows_add_up}
use Rattle.model.proofs.ListLaws.{all_of}
use Rattle.model.proofs.WalkLaws.{Rising, rising_by}
use Rattle.wellformed.proofs.NameLaws.{name_below}
use Rattle.writer.specs.Text.{residue_for, atom_row_of}
use Rattle.return_trip.specs.Returned.{printed_point}
use Rattle.return_trip.proofs.ChainsAgain.{place_again, names_at_places, met_in_runs}
use Rattle.return_trip.proofs.MapsAgain.{build_of, built_in_order, built_in_runs}
use Rattle.return_trip.proofs.RowsAgain.{site_of_row}
use Rattle.return_trip.proofs.RunsAgain.{runs_made}
use Rattle.return_trip.proofs.WellFormedModel.{Well, residue_itself, residue_of_lem, chain_within}

-- ---- what the rows say, and what they leave

-- what an atom's row says to a reader, whatever its id
abbrev pub site_in : Model → AtomRecord → Site
site_in m a = site_of_row (atom_row_of m 0 a)

abbrev pub taken_of : Model → List AtomRecord → List Taken
taken_of m atoms = map (λ a. site (site_in m a)) atoms

abbrev pub residue_entry : ResidueRecord → Entry Residue
residue_entry r = record { key = r.key; value = record { name = r.name; hetatm = not (is_polymer r.code) } }

abbrev pub atom_entry : AtomRecord → Entry Atom
atom_entry a = record { key = atom_place a.key a.name; value = record { element = a.element; position = printed_point a.position; occupancy = one } }

abbrev pub state_in : Model → State
state_in m = record {
  chains = m.chains;
  residues = map residue_entry m.residues;
  atoms = map atom_entry m.atoms;
  rows = length m.atoms;
  skipped = 0;
  outdone = 0;
  assumed = 0;
}

-- ---- rows of which none is skipped or assumed
all_sites : (m : Model) (l : List AtomRecord) → sites (taken_of m l) ≡ map (site_in m) l
unfolding sites
all_sites m [] = refl
all_sites m (a ∷ l) = ap (λ (r : List Site). site_in m a ∷ r) (all_sites m l)

none_skipped : (m : Model) (l : List AtomRecord) → skipped_in (taken_of m l) ≡ 0
unfolding skipped_in
none_skipped m [] = refl
none_skipped m (a ∷ l) = none_skipped m l

none_assumed : (m : Model) (l : List AtomRecord) → assumed_in (map (site_in m) l) ≡ 0
none_assumed m [] = refl
none_assumed m (a ∷ l) = none_assumed m l

key_again : (k : ℕ) → residue_key (chain_part k) (sequence_part k) (code_part k) ≡ k
key_again k = omega arith

pub same_made : {A B : Type 0} (f g : A → B) (l : List A) → ((a : A) → Memᴰ a l → f a ≡ g a) → map f l ≡ map g l
same_made {A} {B} f g l h = go l (all_of (λ a. f a ≡ g a) l h)
  where
    go : (l : List A) → All (λ a. f a ≡ g a) l → map f l ≡ map g l
    go [] e = refl
    go (a ∷ l) e = λ i. e.0 i ∷ go l e.1 i

module _ (m : Model) (w : Well m) where
  abbrev rows : List Taken
  rows = taken_of m m.atoms

  -- ---- chains
  places_run : runs_of (map (λ a. chain_part a.key) m.atoms) ≡ list_from (λ i. i) 0 (length m.chains)
  places_run =
      ap runs_of (sym (map-map chain_part (λ a. a.key) m.atoms))
      ∙ runs_made chain_part (map (λ a. a.key) m.atoms)
      ∙ ap (λ (l : List ℕ). runs_of (map chain_part l)) w.atom_runs
      ∙ ap runs_of (map-map chain_part (λ r. r.key) m.residues)
      ∙ w.residue_runs

  names_run : map (λ p. get_or m.chains p 0) (runs_of (map (λ a. chain_part a.key) m.atoms)) ≡ m.chains
  names_run = ap (map (λ p. get_or m.chains p 0)) places_run ∙ names_at_places m.chains

  chains_met : met_after [] (map (site_in m) m.atoms) ≡ m.chains
  chains_met =
      met_in_runs (site_in m) (λ a. chain_part a.key) (λ p. get_or m.chains p 0) (λ a. refl) m.atoms (ap differ names_run ∙ w.differing)
      ∙ names_run

  sites_met : met_after [] (sites rows) ≡ m.chains
  sites_met = ap (met_after []) (all_sites m m.atoms) ∙ chains_met

  -- ---- keys and places
  residue_placed : (a : AtomRecord) → Memᴰ a m.atoms → residue_at m.chains (site_in m a) ≡ a.key
  unfolding residue_at
  residue_placed a d =
      let r = residue_of_lem m w a d in
      let within : chain_part a.key < length m.chains = subst (λ (k : ℕ). chain_part k < length m.chains) r.1 (chain_within m w (residue_for m.residues a.key) r.0) in
      ap (λ (p : ℕ). residue_key p (sequence_part a.key) (code_part a.key)) (place_again m.chains w.differing (chain_part a.key) within)
      ∙ key_again a.key

  atom_placed : (a : AtomRecord) → Memᴰ a m.atoms → atom_at m.chains (site_in m a) ≡ atom_place a.key a.name
  unfolding atom_at
  atom_placed a d = ap (λ (k : ℕ). atom_place k a.name) (residue_placed a d)

  -- ---- residues
  rising : Rising (map (λ a. a.key) m.atoms)
  rising =
      rising_by (λ a. a.name < 2 ^ 64) (λ a. atom_place a.key a.name) (λ a. a.key) (λ a b h k. keeps a.key a.name b.key b.name h k) m.atoms
      (all_of (λ a. a.name < 2 ^ 64) m.atoms (λ a d. name_below a.name (w.atoms a d).name)) w.atoms_ascend
    where
      keeps : (k n j o : ℕ) → o < 2 ^ 64 → atom_place k n < atom_place j o → k ≤ j
      keeps k n j o h l = omega arith

  abbrev said : ℕ → Residue
  said k = let r = residue_for m.residues k in record { name = r.name; hetatm = not (is_polymer r.code) }

  residues_left : (model_of rows).residues ≡ map residue_entry m.residues
  residues_left =
      residues_after start rows
      ∙ ap (λ (c : List ℕ). build (residue_at c) first [] (sites rows)) sites_met
      ∙ ap (build (residue_at m.chains) first []) (all_sites m m.atoms)
      ∙ build_of (site_in m) (residue_at m.chains) (λ a. a.key) first [] m.atoms (all_of (λ a. residue_at m.chains (site_in m a) ≡ a.key) m.atoms residue_placed)
      ∙ built_in_runs (λ a. a.key) (λ a. first (site_in m a)) said (λ a. refl) (λ a v. refl) m.atoms rising
      ∙ ap (map (λ k. record { key = k; value = said k })) w.atom_runs
      ∙ map-map (λ k. record { key = k; value = said k }) (λ r. r.key) m.residues
      ∙ same_made (λ r. record { key = r.key; value = said r.key }) residue_entry m.residues
      (λ r d. ap (λ (t : ResidueRecord). record { key = r.key; value = record { name = t.name; hetatm = not (is_polymer t.code) } }) (residue_itself m.residues w.residues_ascend r d))

  -- ---- atoms
  atoms_left : (model_of rows).atoms ≡ map atom_entry m.atoms
  atoms_left =
      atoms_after start rows
      ∙ ap (λ (c : List ℕ). build (atom_at c) greater [] (sites rows)) sites_met
      ∙ ap (build (atom_at m.chains) greater []) (all_sites m m.atoms)
      ∙ build_of (site_in m) (atom_at m.chains) (λ a. atom_place a.key a.name) greater [] m.atoms
      (all_of (λ a. atom_at m.chains (site_in m a) ≡ atom_place a.key a.name) m.atoms atom_placed)
      ∙ built_in_order (λ a. atom_place a.key a.name) (λ a. greater (site_in m a)) m.atoms w.atoms_ascend

  -- ---- the theorem
  pub fold_again : model_of (taken_of m m.atoms) ≡ state_in m
  fold_again =
      let long = length-map m.atoms (λ a. site (site_in m a)) in
      let r : (model_of rows).rows ≡ length m.atoms = rows_counted rows ∙ long in
      let s : (model_of rows).skipped ≡ 0 = skipped_counted rows ∙ none_skipped m m.atoms in
      let left : length (model_of rows).atoms ≡ length m.atoms = ap length atoms_left ∙ length-map m.atoms atom_entry in
      let sum = rows_add_up rows in
      let o : (model_of rows).outdone ≡ 0 = omega arith in
      λ i. record {
        chains = (chains_after start rows ∙ sites_met) i;
        residues = residues_left i;
        atoms = atoms_left i;
        rows = r i;
        skipped = s i;
        outdone = o i;
        assumed = (assumed_counted rows ∙ ap assumed_in (all_sites m m.atoms) ∙ none_assumed m m.atoms) i;
      }
