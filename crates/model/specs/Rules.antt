-- The rules of document 01 for the model of some rows, each said of the rows as they stand.
use Rattle.std.specs.Prelude.{◌≡◌, Bool, true, false, not, ◌&&◌, ◌||◌, ℕ, ◌+◌, eqb, length}
use mathlib.Core.List.{List, [], ◌∷◌, ◌++◌, Memᴰ}
use Rattle.std.proofs.Math.Option.{Option, none, some}
use Rattle.std.specs.Float.Ieee.{lt}
use Rattle.rows.specs.declared.rules.Site.{Site}
use Rattle.model.specs.Fold.{Residue, Atom, State, residue_of, atom_of}
use Rattle.model.specs.Keys.{residue_at, atom_at}
use Rattle.model.specs.Lists.{filter, any, All, count}
use Rattle.model.specs.Map.{Entry, Map, find, Ascending}
use Rattle.model.specs.Taken.{Taken, sites, skipped_in}

-- ---- which rows are of one residue, and of one atom

abbrev pub same_residue : Site → Site → Bool
same_residue s t = eqb t.chain s.chain && eqb t.sequence s.sequence && eqb t.insertion_code s.insertion_code

abbrev pub same_atom : Site → Site → Bool
same_atom s t = same_residue s t && eqb t.atom s.atom

-- ---- chains

-- each once, in the order of their first rows
unfoldable pub first_met : List Site → List ℕ
first_met [] = []
first_met (s ∷ l) = s.chain ∷ filter (λ c. not (eqb c s.chain)) (first_met l)

-- ---- residues and atoms

-- the entries of a map are exactly those that some row names, `at` its place; `same` says which rows are of one thing
pub record Entries {W : Type 0} (at : Site → ℕ) (same : Site → Site → Bool) (Value : List Site → W → Type 0) (l : List Site) (m : Map W) : Type 0 where
  pub ascending : Ascending m
  -- each entry is named by some row
  pub only : (e : Entry W) → Memᴰ e m → (s : Site) × Memᴰ s l × (e.key ≡ at s)
  -- each row has its entry, whose value goes by the rows of the same thing
  pub every : (s : Site) → Memᴰ s l → (w : W) × (find (at s) m ≡ some w) × Value (filter (same s) l) w

-- what the first of a residue's rows says
abbrev pub first_of : List Site → Option Residue
first_of [] = none
first_of (s ∷ l) = some (residue_of s)

-- of an atom's rows the earliest of greatest occupancy: none is greater, and none before it as great
pub record Earliest (l : List Site) (t : Site) : Type 0 where
  pub before : List Site
  pub after : List Site
  pub among : l ≡ before ++ t ∷ after
  pub greatest : All (λ s. lt t.occupancy s.occupancy ≡ false) l
  pub first : All (λ s. lt s.occupancy t.occupancy ≡ true) before

abbrev pub ResidueValue : List Site → Residue → Type 0
ResidueValue l r = first_of l ≡ some r

abbrev pub AtomValue : List Site → Atom → Type 0
AtomValue l a = (t : Site) × Earliest l t × (a ≡ atom_of t)

-- ---- counts

-- not the kept row of its atom: one before it is as great, or one after it is greater
abbrev pub is_outdone : List Site → Site → List Site → Bool
is_outdone before s after =
    any (λ t. same_atom s t && not (lt t.occupancy s.occupancy)) before
    || any (λ t. same_atom s t && lt s.occupancy t.occupancy) after

unfoldable pub outdone_after : List Site → List Site → ℕ
outdone_after before [] = 0
outdone_after before (s ∷ l) = count (is_outdone before s l) + outdone_after (before ++ (s ∷ [])) l

abbrev pub outdone_in : List Site → ℕ
outdone_in l = outdone_after [] l

abbrev pub assumed_in : List Site → ℕ
assumed_in l = length (filter (λ s. s.assumed) l)

-- ---- the whole

pub record Ruled (l : List Taken) (st : State) : Type 0 where
  pub chains : st.chains ≡ first_met (sites l)
  pub residues : Entries (residue_at st.chains) same_residue ResidueValue (sites l) st.residues
  pub atoms : Entries (atom_at st.chains) same_atom AtomValue (sites l) st.atoms
  pub rows : st.rows ≡ length l
  pub skipped : st.skipped ≡ skipped_in l
  pub outdone : st.outdone ≡ outdone_in (sites l)
  pub assumed : st.assumed ≡ assumed_in (sites l)
  pub sum : st.rows ≡ st.skipped + st.outdone + length st.atoms
