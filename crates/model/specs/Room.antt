-- Step 8 of a row: room for at most so many chains, residues and atoms. Only what is new needs room, and reading stops at the first row that has none.
use Rattle.std.specs.Prelude.{◌≡◌, Bool, ◌&&◌, cond, List, [], ◌∷◌, ◌++◌, ℕ, ◌≤◌, leb, length, Option, None, Some}
use Rattle.refusals.specs.declared.details.RecordKind.{RecordKind}
use Rattle.refusals.specs.declared.details.RecordKind.TheVariants as kind
use Rattle.model.specs.declared.room.Room.{Room}
use Rattle.model.specs.Chains.{chain_place, with_chain}
use Rattle.model.specs.Fold.{State, start, step, model_of}
use Rattle.model.specs.Keys.{residue_at, atom_at}
use Rattle.model.specs.Map.{find, is_none}
use Rattle.model.specs.Taken.{Taken, skipped, site}

-- the state is within the room
pub record Fits (room : Room) (st : State) : Type 0 where
  pub chains : length st.chains ≤ room.chains
  pub residues : length st.residues ≤ room.residues
  pub atoms : length st.atoms ≤ room.atoms

-- there is no room beside so many, for something that may be new
abbrev pub no_room : Bool → ℕ → ℕ → Bool
no_room new room many = new && leb room many

-- what a row lacks room for: its chain, then its residue, then its atom
abbrev pub first_lack : Bool → Bool → Bool → Option RecordKind
first_lack chain residue atom = cond chain (Some kind.Chain) (cond residue (Some kind.Residue) (cond atom (Some kind.Atom) None))

unfoldable pub lacking : Room → State → Taken → Option RecordKind
lacking room st skipped = None
lacking room st (site s) =
    let chains = with_chain s.chain st.chains in
    first_lack (no_room (leb (length st.chains) (chain_place s.chain st.chains)) room.chains (length st.chains))
    (no_room (is_none (find (residue_at chains s) st.residues)) room.residues (length st.residues))
    (no_room (is_none (find (atom_at chains s) st.atoms)) room.atoms (length st.atoms))

pub data Reading : Type 0 where
  whole : State → Reading
  -- how many rows came before the one without room, and what it lacks
  stopped : ℕ → RecordKind → Reading

-- past a row: what it lacks, and the reading of the others
abbrev pub onward : ℕ → Option RecordKind → Reading → Reading
onward before None others = others
onward before (Some lack) others = stopped before lack

unfoldable pub read_from : Room → State → List Taken → Reading
read_from room st [] = whole st
read_from room st (r ∷ l) = onward st.rows (lacking room st r) (read_from room (step st r) l)

abbrev pub read_within : Room → List Taken → Reading
read_within room l = read_from room start l

-- the row that has i before it is the first without room, and this is what it lacks
pub record StopsAt (room : Room) (l : List Taken) (i : ℕ) (lack : RecordKind) : Type 0 where
  pub before : List Taken
  pub row : Taken
  pub after : List Taken
  pub rows : l ≡ before ++ row ∷ after
  pub place : i ≡ length before
  pub fits : Fits room (model_of before)
  pub lacks : lacking room (model_of before) row ≡ Some lack
