-- A line's fields in parts: those before a field with a blank after each, and then the rest of the line.
use mathlib.Core.Path.{◌≡◌, refl, sym, ap, ◌∙◌}
use mathlib.Core.List.{List, [], ◌∷◌, ◌++◌, append_assoc}
use Prim.Native.Nat.{ℕ}
use lib.ListN.{take, drop}
use Rattle.ascii.specs.Bytes.{byte, bytes}
use Rattle.tokens.specs.Line.{spaced}
use Rattle.row_texts.specs.declared.loop_rows.AtomRow.{AtomRow}
use Rattle.row_texts.specs.Rows.{atom_fields, line_text, atom_text, blanked}

in_parts : (before : List (List ℕ)) (text : List ℕ) (texts : List (List ℕ)) → spaced (before ++ (text ∷ texts)) ≡ blanked before ++ spaced (text ∷ texts)
unfolding spaced blanked
in_parts [] text texts = refl
in_parts (first ∷ []) text texts = sym (append_assoc first (byte " " ∷ []) (spaced (text ∷ texts)))
in_parts (first ∷ (second ∷ before)) text texts =
    ap (λ (s : List ℕ). first ++ (byte " " ∷ s)) (in_parts (second ∷ before) text texts)
    ∙ sym (append_assoc first (byte " " ∷ blanked (second ∷ before)) (spaced (text ∷ texts)))

line_in_parts : (before : List (List ℕ)) (text : List ℕ) (texts : List (List ℕ)) → line_text (spaced (before ++ (text ∷ texts))) ≡ blanked before ++ line_text (spaced (text ∷ texts))
line_in_parts before text texts = ap line_text (in_parts before text texts) ∙ append_assoc (blanked before) (spaced (text ∷ texts)) (bytes "\n")

pub atom_in_parts : (row : AtomRow) → let fields = atom_fields row in
    atom_text row ≡ blanked (take 7 fields) ++ (blanked (take 3 (drop 7 fields)) ++ (blanked (take 3 (drop 10 fields)) ++ line_text (spaced (drop 13 fields))))
unfolding atom_text
atom_in_parts row =
    let fields = atom_fields row in
    line_in_parts (take 7 fields) _ _
    ∙ ap (λ (s : List ℕ). blanked (take 7 fields) ++ s)
    (line_in_parts (take 3 (drop 7 fields)) _ _
    ∙ ap (λ (s : List ℕ). blanked (take 3 (drop 7 fields)) ++ s) (line_in_parts (take 3 (drop 10 fields)) _ _))
