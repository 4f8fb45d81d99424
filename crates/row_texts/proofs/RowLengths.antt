-- A line is as long as its fields and one byte after each, a blank or the end of the line.
use mathlib.Core.Path.{◌≡◌, refl}
use mathlib.Core.Bool.{Bool, true, false, cond}
use mathlib.Core.List.{List, [], ◌∷◌, ◌++◌}
use Prim.Native.Nat.{ℕ, suc, ◌+◌}
use native.Mathlib.Omega.{arith}
use lib.Dec.{eqb}
use lib.ListN.{length, drop, length-append}
use Rattle.ascii.specs.Bytes.{byte, bytes}
use Rattle.tokens.specs.Line.{spaced}
use Rattle.row_texts.specs.declared.loop_rows.AtomRow.{AtomRow}
use Rattle.row_texts.specs.declared.loop_rows.PolymerRow.{PolymerRow}
use Rattle.row_texts.specs.Fields.{decimal_of, sequence_text, name_text, symbol_text, code_text, group_text, number_text, coordinate_text, FieldLength}
use Rattle.row_texts.specs.Rows.{atom_fields, polymer_fields, line_text, atom_text, polymer_text}

lengths : List (List ℕ) → ℕ
lengths [] = 0
lengths (text ∷ texts) = suc (length text + lengths texts)

line_length_lem : (text : List ℕ) (texts : List (List ℕ)) → length (line_text (spaced (text ∷ texts))) ≡ lengths (text ∷ texts)
unfolding spaced lengths
line_length_lem text [] = omega (arith, length-append text (bytes "\n"))
line_length_lem text (next ∷ texts) =
    let rest = spaced (next ∷ texts) in
    omega (
      arith,
      length-append (text ++ (byte " " ∷ rest)) (bytes "\n"),
      length-append text (byte " " ∷ rest),
      length-append rest (bytes "\n"),
      line_length_lem next texts,
    )

code_length : (code : ℕ) → length (code_text code) ≡ 1
unfolding code_text
code_length code = go (eqb code 0)
  where
    go : (t : Bool) → length (cond t (bytes "?") (code ∷ [])) ≡ 1
    go true = refl
    go false = refl

-- the names stand in the row twice
pub atom_length : (row : AtomRow) {group id symbol atom residue chain entity number position sequence : ℕ}
    → FieldLength (group_text row.polymer) group → FieldLength (decimal_of row.id) id → FieldLength (symbol_text row.element) symbol
    → FieldLength (name_text row.atom) atom → FieldLength (name_text row.residue) residue → FieldLength (name_text row.chain) chain
    → FieldLength (decimal_of row.entity) entity → FieldLength (number_text row.polymer row.number) number
    → position ≡ length (coordinate_text row.position.x) + length (coordinate_text row.position.y) + length (coordinate_text row.position.z)
    → FieldLength (sequence_text row.sequence) sequence
    → length (atom_text row) ≡ 29 + group + id + symbol + (atom + residue + chain) + entity + number + position + sequence + (atom + residue + chain)
unfolding atom_text lengths
atom_length row g i s a r c e n p q =
    rw (g.long, i.long, s.long, a.long, r.long, c.long, e.long, n.long, p, q.long)
    (omega (arith, line_length_lem (group_text row.polymer) (drop 1 (atom_fields row)), code_length row.insertion_code))

pub polymer_length : (row : PolymerRow) → length (polymer_text row) ≡ 5 + length (decimal_of row.entity) + length (decimal_of row.number) + length (name_text row.residue)
unfolding polymer_text lengths
polymer_length row = omega (arith, line_length_lem (decimal_of row.entity) (drop 1 (polymer_fields row)))
