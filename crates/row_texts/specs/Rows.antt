-- A row of the atom loop and one of the polymer list: fields with one blank between two, and byte 10 at the end.
use Rattle.std.specs.Prelude.{ℕ, List, [], ◌∷◌, ◌++◌}
use Rattle.ascii.specs.Bytes.{byte, bytes}
use Rattle.tokens.specs.Line.{spaced}
use Rattle.row_texts.specs.declared.loop_rows.AtomRow.{AtomRow}
use Rattle.row_texts.specs.declared.loop_rows.PolymerRow.{PolymerRow}
use Rattle.row_texts.specs.Fields.{decimal_of, sequence_text, name_text, symbol_text, code_text, group_text, number_text, coordinate_text}

-- the nineteen fields in the order of the headers; "Alternate is `.`, no insertion code `?`, occupancy 1.00, B 0.00."
abbrev pub atom_fields : AtomRow → List (List ℕ)
atom_fields row =
    group_text row.polymer
    ∷ decimal_of row.id
    ∷ symbol_text row.element
    ∷ name_text row.atom
    ∷ bytes "."
    ∷ name_text row.residue
    ∷ name_text row.chain
    ∷ decimal_of row.entity
    ∷ number_text row.polymer row.number
    ∷ code_text row.insertion_code
    ∷ coordinate_text row.position.x
    ∷ coordinate_text row.position.y
    ∷ coordinate_text row.position.z
    ∷ bytes "1.00"
    ∷ bytes "0.00"
    ∷ sequence_text row.sequence
    ∷ name_text row.residue
    ∷ name_text row.chain
    ∷ name_text row.atom
    ∷ []

abbrev pub polymer_fields : PolymerRow → List (List ℕ)
polymer_fields row = decimal_of row.entity ∷ decimal_of row.number ∷ name_text row.residue ∷ bytes "n" ∷ []

-- "Lines end in byte 10."
abbrev pub line_text : List ℕ → List ℕ
line_text line = line ++ bytes "\n"

unfoldable pub atom_text : AtomRow → List ℕ
atom_text row = line_text (spaced (atom_fields row))

unfoldable pub polymer_text : PolymerRow → List ℕ
polymer_text row = line_text (spaced (polymer_fields row))

-- ---- a row in parts

-- texts with a blank after each
unfoldable pub blanked : List (List ℕ) → List ℕ
blanked [] = []
blanked (text ∷ texts) = text ++ (byte " " ∷ blanked texts)
