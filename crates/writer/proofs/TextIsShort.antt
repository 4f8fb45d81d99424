-- Each field has at most 25 bytes, so each row fewer than 512, and the text of as many residues and atoms as document 01 allows is below 2 ^ 32.
use mathlib.Core.Path.{◌≡◌}
use mathlib.Core.Bool.{Bool, true, false, cond}
use mathlib.Core.List.{List, [], ◌∷◌, ◌++◌}
use Prim.Native.Nat.{ℕ, suc, ◌+◌, ◌*◌, ◌^◌, ◌≤◌, ◌<◌}
use native.Mathlib.Omega.{arith}
use lib.ListN.{length, length-append}
use Rattle.ascii.specs.Bytes.{byte, bytes}
use Rattle.tokens.specs.Line.{spaced}
use Rattle.model.specs.Lent.{Lent, residue_in, atom_in, model_in}
use Rattle.model.specs.Records.{ResidueRecord, AtomRecord, Model}
use Rattle.model.specs.Termini.{is_polymer}
use Rattle.model.specs.WellFormed.{well_formed_in}
use Rattle.model.specs.declared.room.Room.{Room}
use Rattle.row_texts.specs.Rows.{atom_fields, polymer_fields, atom_text, polymer_text}
use Rattle.row_texts.specs.declared.loop_rows.AtomRow.{AtomRow}
use Rattle.row_texts.specs.declared.loop_rows.PolymerRow.{PolymerRow}
use Rattle.row_texts.proofs.FieldsAreShort.{Short, decimal_short, sequence_short, name_short, symbol_short, code_short, group_short, number_short, coordinate_short}
pub use Rattle.row_texts.proofs.FieldsAreShort.{decimal_fits}
use Rattle.writer.specs.Text as text
use Rattle.writer.specs.Text.{lines_text, opening, closing, polymer_headers, atom_headers, atom_row_of, polymer_row_of, atom_rows, polymer_rows, polymer_list}
use Rattle.writer.proofs.ListsByIndex.{from_length}
use Rattle.writer.proofs.WellFormedParts.{few_residues, few_atoms}

-- ---- fields that are always the same
alternate_short : Short (bytes ".")
alternate_short = omega arith

occupancy_short : Short (bytes "1.00")
occupancy_short = omega arith

b_short : Short (bytes "0.00")
b_short = omega arith

hetero_short : Short (bytes "n")
hetero_short = omega arith

-- ---- rows
data AllShort : List (List ℕ) → Type 0 where
  none : AllShort []
  ◌also◌ : {field : List ℕ} {fields : List (List ℕ)} → Short field → AllShort fields → AllShort (field ∷ fields)

infixr 20 ◌also◌
spaced_short : (fields : List (List ℕ)) → AllShort fields → length (spaced fields) ≤ 26 * length fields
unfolding spaced
spaced_short [] none = omega arith
spaced_short (field ∷ []) (s also none) = omega arith
spaced_short (field ∷ next ∷ fields) (s also a) = omega (arith, length-append field (byte " " ∷ spaced (next ∷ fields)), spaced_short (next ∷ fields) a)

atom_short : (row : AtomRow) → length (atom_text row) ≤ 512
unfolding atom_text
atom_short row = omega (arith, length-append (spaced (atom_fields row)) (bytes "\n"), spaced_short (atom_fields row) each)
  where
    each : AllShort (atom_fields row)
    each =
        group_short row.polymer
        also decimal_short row.id
        also symbol_short row.element
        also name_short row.atom
        also alternate_short
        also name_short row.residue
        also name_short row.chain
        also decimal_short row.entity
        also number_short row.polymer row.number
        also code_short row.insertion_code
        also coordinate_short row.position.x
        also coordinate_short row.position.y
        also coordinate_short row.position.z
        also occupancy_short
        also b_short
        also sequence_short row.sequence
        also name_short row.residue
        also name_short row.chain
        also name_short row.atom
        also none

polymer_short : (row : PolymerRow) → length (polymer_text row) ≤ 512
unfolding polymer_text
polymer_short row =
    omega (
      arith,
      length-append (spaced (polymer_fields row)) (bytes "\n"),
      spaced_short (polymer_fields row) (decimal_short row.entity also decimal_short row.number also name_short row.residue also hetero_short also none),
    )

-- ---- the text
module _ (m : Model) where
  atoms_short : (id : ℕ) (l : List AtomRecord) → length (atom_rows m id l) ≤ 512 * length l
  unfolding atom_rows
  atoms_short id [] = omega arith
  atoms_short id (a ∷ l) = omega (arith, length-append (atom_text (atom_row_of m id a)) (atom_rows m (suc id) l), atom_short (atom_row_of m id a), atoms_short (suc id) l)

  polymers_short : (l : List ResidueRecord) → length (polymer_rows m l) ≤ 512 * length l
  unfolding polymer_rows
  polymers_short [] = omega arith
  polymers_short (r ∷ l) = go (is_polymer r.code) (polymers_short l)
    where
      go : (b : Bool) → length (polymer_rows m l) ≤ 512 * length l → length (cond b (polymer_text (polymer_row_of m r)) [] ++ polymer_rows m l) ≤ 512 * suc (length l)
      go true h = omega (arith, length-append (polymer_text (polymer_row_of m r)) (polymer_rows m l), polymer_short (polymer_row_of m r))
      go false h = omega arith

list_short : (rows : List ℕ) → length (polymer_list rows) ≤ 512 + length rows
unfolding lines_text
list_short [] = omega arith
list_short (b ∷ rows) = omega (arith, length-append (lines_text polymer_headers) ((b ∷ rows) ++ lines_text closing), length-append (b ∷ rows) (lines_text closing))

loop_short : (rows : List ℕ) → length (text.atom_loop rows) ≤ 1024 + length rows
unfolding lines_text
loop_short rows = omega (arith, length-append (lines_text atom_headers) (rows ++ lines_text closing), length-append rows (lines_text closing))

pub text_short : (l : Lent) (counts : Room) → well_formed_in l counts ≡ true → length (text.text_of (model_in l counts)) < 2 ^ 32
unfolding text.text_of model_in lines_text
text_short l counts well =
    let m = model_in l counts in
    let polymers = polymer_rows m m.residues in
    let rows = atom_rows m 1 m.atoms in
    omega (
      arith,
      length-append (lines_text opening) (polymer_list polymers ++ text.atom_loop rows),
      length-append (polymer_list polymers) (text.atom_loop rows),
      list_short polymers,
      loop_short rows,
      polymers_short m m.residues,
      atoms_short m 1 m.atoms,
      from_length (residue_in l) 0 counts.residues,
      from_length (atom_in l) 0 counts.atoms,
      few_residues l counts well,
      few_atoms l counts well,
    )
