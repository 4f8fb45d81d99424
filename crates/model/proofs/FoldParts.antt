-- What the rows leave, part by part: each part is a function of the unskipped rows. A chain that is met keeps its place, so that the keys can be
-- reckoned with the chains as they are at the end.
use mathlib.Core.Path.{◌≡◌, refl, sym, ap, ◌∙◌}
use mathlib.Core.Bool.{cond}
use mathlib.Core.List.{List, [], ◌∷◌}
use mathlib.Core.Option.{Option, none, some}
use Prim.Native.Nat.{ℕ, suc, ◌+◌}
use native.Mathlib.Omega.{arith}
use lib.ListN.{length}
use Rattle.rows.specs.declared.rules.Site.{Site}
use Rattle.model.specs.Chains.{chain_place, with_chain}
use Rattle.model.specs.Fold.{Atom, State, first, greater, outdone_with, start, step, run, model_of}
use Rattle.model.specs.Keys.{residue_key, atom_place, residue_at, atom_at}
use Rattle.model.specs.Lists.{count}
use Rattle.model.specs.Map.{find, is_none, put}
use Rattle.model.specs.Rules.{assumed_in}
use Rattle.model.specs.Taken.{Taken, skipped, site, sites, skipped_in}
use Rattle.model.proofs.BuiltMaps.{build}
use Rattle.model.proofs.ChainsFirstMet.{met_here, met_after, place_stays}
use Rattle.model.proofs.ClassLaws.{total, total_count}
use Rattle.model.proofs.MapLaws.{length_put}

-- ---- chains, residues, atoms
pub chains_after : (st : State) (l : List Taken) → (run st l).chains ≡ met_after st.chains (sites l)
unfolding run step sites met_after
chains_after st [] = refl
chains_after st (skipped ∷ l) = chains_after (step st skipped) l
chains_after st (site s ∷ l) = chains_after (step st (site s)) l

module _ (p : List ℕ) (s : Site) (l : List Site) where
  place_now : chain_place s.chain (with_chain s.chain p) ≡ chain_place s.chain (met_after (with_chain s.chain p) l)
  place_now = sym (place_stays s.chain (with_chain s.chain p) l (met_here s.chain p))

  residue_now : residue_at (with_chain s.chain p) s ≡ residue_at (met_after (with_chain s.chain p) l) s
  unfolding residue_at
  residue_now = ap (λ (i : ℕ). residue_key i s.sequence s.insertion_code) place_now

  atom_now : atom_at (with_chain s.chain p) s ≡ atom_at (met_after (with_chain s.chain p) l) s
  unfolding atom_at
  atom_now = ap (λ (key : ℕ). atom_place key s.atom) residue_now

pub residues_after : (st : State) (l : List Taken) → (run st l).residues ≡ build (residue_at (met_after st.chains (sites l))) first st.residues (sites l)
unfolding run step sites met_after build
residues_after st [] = refl
residues_after st (skipped ∷ l) = residues_after (step st skipped) l
residues_after st (site s ∷ l) =
    residues_after (step st (site s)) l
    ∙ ap (λ (k : ℕ). build (residue_at (met_after (with_chain s.chain st.chains) (sites l))) first (put k (first s) st.residues) (sites l)) (residue_now st.chains s (sites l))

pub atoms_after : (st : State) (l : List Taken) → (run st l).atoms ≡ build (atom_at (met_after st.chains (sites l))) greater st.atoms (sites l)
unfolding run step sites met_after build
atoms_after st [] = refl
atoms_after st (skipped ∷ l) = atoms_after (step st skipped) l
atoms_after st (site s ∷ l) =
    atoms_after (step st (site s)) l
    ∙ ap (λ (k : ℕ). build (atom_at (met_after (with_chain s.chain st.chains) (sites l))) greater (put k (greater s) st.atoms) (sites l)) (atom_now st.chains s (sites l))

-- ---- counts
rows_after : (st : State) (l : List Taken) → (run st l).rows ≡ st.rows + length l
unfolding run step
rows_after st [] = omega arith
rows_after st (skipped ∷ l) = rows_after (step st skipped) l ∙ omega arith
rows_after st (site s ∷ l) = rows_after (step st (site s)) l ∙ omega arith

skipped_after : (st : State) (l : List Taken) → (run st l).skipped ≡ st.skipped + skipped_in l
unfolding run step skipped_in
skipped_after st [] = omega arith
skipped_after st (skipped ∷ l) = skipped_after (step st skipped) l ∙ omega arith
skipped_after st (site s ∷ l) = skipped_after (step st (site s)) l

assumed_after : (st : State) (l : List Taken) → (run st l).assumed ≡ st.assumed + total (λ (s : Site). count s.assumed) (sites l)
unfolding run step sites total
assumed_after st [] = omega arith
assumed_after st (skipped ∷ l) = assumed_after (step st skipped) l
assumed_after st (site s ∷ l) = assumed_after (step st (site s)) l ∙ omega arith

pub rows_counted : (l : List Taken) → (model_of l).rows ≡ length l
rows_counted l = omega (arith, rows_after start l)

pub skipped_counted : (l : List Taken) → (model_of l).skipped ≡ skipped_in l
skipped_counted l = omega (arith, skipped_after start l)

pub assumed_counted : (l : List Taken) → (model_of l).assumed ≡ assumed_in (sites l)
assumed_counted l = omega (arith, assumed_after start l, total_count (λ (s : Site). s.assumed) (sites l))

-- each row is skipped or not
pub rows_split : (l : List Taken) → length l ≡ skipped_in l + length (sites l)
unfolding skipped_in sites
rows_split [] = omega arith
rows_split (skipped ∷ l) = omega (arith, rows_split l)
rows_split (site s ∷ l) = omega (arith, rows_split l)

-- ---- the sum

abbrev Balanced : State → Type 0
Balanced st = st.rows ≡ st.skipped + st.outdone + length st.atoms

balanced : (st : State) (l : List Taken) → Balanced st → Balanced (run st l)
unfolding run step
balanced st [] h = h
balanced st (skipped ∷ l) h = balanced (step st skipped) l (omega arith)
balanced st (site s ∷ l) h =
    let k = atom_at (with_chain s.chain st.chains) s in
    balanced (step st (site s)) l (go (find k st.atoms) (length (put k (greater s) st.atoms)) (length_put k (greater s) st.atoms))
  where
    go : (o : Option Atom) (n : ℕ) → n ≡ cond (is_none o) (suc (length st.atoms)) (length st.atoms) → suc st.rows ≡ st.skipped + outdone_with o st.outdone + n
    go none n e = omega arith
    go (some t) n e = omega arith

-- every row is skipped, or outdone, or the kept row of an atom
pub rows_add_up : (l : List Taken) → (model_of l).rows ≡ (model_of l).skipped + (model_of l).outdone + length (model_of l).atoms
rows_add_up l = balanced start l (omega arith)
