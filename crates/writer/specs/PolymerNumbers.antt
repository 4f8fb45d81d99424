-- The walk over the residues, from each to the next, with the number of each among the polymer residues of its chain; and what is written on the way.
use Rattle.std.specs.Prelude.{ℕ, suc, ◌+◌, ◌≤◌, Bool, ◌||◌, cond, List, [], eqb, length, get_or}
use Rattle.model.specs.Keys.{chain_part, sequence_part, code_part}
use Rattle.model.specs.Lists.{count}
use Rattle.model.specs.Records.{ResidueRecord, Model}
use Rattle.model.specs.TakenOut.{residue_out}
use Rattle.model.specs.Termini.{is_polymer}
use Rattle.model.specs.declared.room.Room.{Room}
use Rattle.model.specs.declared.taken_out.Atom.{Atom}
use Rattle.model.specs.declared.taken_out.Residue.{Residue}
use Rattle.row_texts.specs.Rows.{polymer_text}
use Rattle.row_texts.specs.declared.loop_rows.AtomRow.{AtomRow}
use Rattle.writer.specs.Text.{atom_rows, polymer_rows}
use Rattle.writer.specs.Unwritable.{holds_both_quotes, is_unwritable_code}
use Rattle.writer.specs.declared.polymer_numbers.Walk.{Walk}

-- ---- from residue to residue

-- the number of a residue, after one of a number and a chain: each chain starts anew
unfoldable pub number_after : ℕ → ℕ → Residue → ℕ
number_after number chain r = cond (eqb r.chain chain) number 0 + count (is_polymer r.code)

-- in the residue at an index, after one of a number and a chain
abbrev pub entered_at : (ℕ → ResidueRecord) → ℕ → ℕ → ℕ → Walk
entered_at at index number chain = record { index = index; number = number_after number chain (residue_out (at index)); residue = residue_out (at index) }

-- in the first one
abbrev pub begun : (ℕ → ResidueRecord) → Walk
begun at = entered_at at 0 0 0

-- on to the residue of a key: the same one, or the next
unfoldable pub walked_to : (ℕ → ResidueRecord) → Walk → ℕ → Walk
walked_to at w key = cond (eqb (at w.index).key key) w (entered_at at (suc w.index) w.number w.residue.chain)

-- what a walk over the atoms leans on, in a model that is well formed or not
abbrev pub Walkable : List ℕ → Room → Type 0
Walkable chains counts = (counts.chains ≤ length chains) × (counts.atoms ≤ 1048576)

-- ---- what is said of an atom in the residue where the walk stands

abbrev pub unwritable_by : List ℕ → Atom → Walk → Bool
unwritable_by chains a w =
    holds_both_quotes a.name
    || holds_both_quotes w.residue.name
    || holds_both_quotes (get_or chains (chain_part a.key) 0)
    || is_unwritable_code (code_part a.key)

abbrev pub row_by : List ℕ → ℕ → Atom → Walk → AtomRow
row_by chains id a w = record {
  polymer = is_polymer w.residue.code;
  id = id;
  element = a.element;
  atom = a.name;
  residue = w.residue.name;
  chain = get_or chains (chain_part a.key) 0;
  entity = suc (chain_part a.key);
  number = w.number;
  insertion_code = code_part a.key;
  position = a.position;
  sequence = sequence_part a.key;
}

-- and of a residue of a number
abbrev pub polymer_by : Residue → ℕ → List ℕ
polymer_by r number = cond (is_polymer r.code) (polymer_text (record { entity = suc r.chain; number = number; residue = r.name })) []

-- ---- all rows

abbrev pub atoms_of : Model → List ℕ
atoms_of m = atom_rows m 1 m.atoms

-- the polymer list knows of the residues alone
abbrev pub polymers_of : List ResidueRecord → List ℕ
polymers_of residues = polymer_rows (record { chains = []; residues = residues; atoms = [] }) residues
