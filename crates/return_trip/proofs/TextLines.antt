-- The lines of a model's text: every part of the text is made of whole lines.
use mathlib.Core.Path.{◌≡◌, refl, sym, ap, ◌∙◌}
use mathlib.Core.List.{List, [], ◌∷◌, ◌++◌, map, append_assoc}
use mathlib.Core.Bool.{Bool, true, false, cond}
use Prim.Native.Nat.{ℕ, suc}
use Rattle.ascii.specs.Bytes.{bytes}
use Rattle.tokens.specs.Line.{spaced}
use Rattle.model.specs.Lists.{filter}
use Rattle.model.specs.Records.{ResidueRecord, AtomRecord, Model}
use Rattle.model.specs.Termini.{is_polymer}
use Rattle.row_texts.specs.Rows.{polymer_fields, polymer_text, atom_text}
use Rattle.writer.specs.Text.{lines_text, atom_row_of, polymer_row_of, atom_rows, polymer_rows, opening, closing, polymer_headers, atom_headers, polymer_list, text_of}
use Rattle.return_trip.proofs.RowsAgain.{atom_line}

-- ---- the lines
abbrev pub polymers : List ResidueRecord → List ResidueRecord
polymers residues = filter (λ r. is_polymer r.code) residues

abbrev pub polymer_line : Model → ResidueRecord → List ℕ
polymer_line m r = spaced (polymer_fields (polymer_row_of m r))

abbrev pub polymer_part : List (List ℕ) → List (List ℕ)
polymer_part [] = []
polymer_part (line ∷ lines) = polymer_headers ++ ((line ∷ lines) ++ closing)

abbrev pub atom_lines : Model → ℕ → List AtomRecord → List (List ℕ)
atom_lines m id [] = []
atom_lines m id (a ∷ atoms) = atom_line (atom_row_of m id a) ∷ atom_lines m (suc id) atoms

abbrev pub lines_in : Model → List (List ℕ)
lines_in m = opening ++ (polymer_part (map (polymer_line m) (polymers m.residues)) ++ (atom_headers ++ (atom_lines m 1 m.atoms ++ closing)))

-- ---- the text is made of them
text_append : (l k : List (List ℕ)) → lines_text (l ++ k) ≡ lines_text l ++ lines_text k
unfolding lines_text
text_append [] k = refl
text_append (line ∷ l) k = ap (λ (t : List ℕ). (line ++ bytes "\n") ++ t) (text_append l k) ∙ sym (append_assoc (line ++ bytes "\n") (lines_text l) (lines_text k))

polymer_text_lem : (m : Model) (l : List ResidueRecord) → polymer_rows m l ≡ lines_text (map (polymer_line m) (polymers l))
unfolding polymer_rows polymer_text lines_text
polymer_text_lem m [] = refl
polymer_text_lem m (r ∷ l) = go (is_polymer r.code) (polymer_text_lem m l)
  where
    go : (t : Bool) → polymer_rows m l ≡ lines_text (map (polymer_line m) (polymers l))
        → cond t (polymer_text (polymer_row_of m r)) [] ++ polymer_rows m l ≡ lines_text (map (polymer_line m) (cond t (r ∷ polymers l) (polymers l)))
    go true e = ap (λ (s : List ℕ). polymer_text (polymer_row_of m r) ++ s) e
    go false e = e

atom_text_lem : (m : Model) (id : ℕ) (l : List AtomRecord) → atom_rows m id l ≡ lines_text (atom_lines m id l)
unfolding atom_rows atom_text lines_text
atom_text_lem m id [] = refl
atom_text_lem m id (a ∷ l) = ap (λ (s : List ℕ). atom_text (atom_row_of m id a) ++ s) (atom_text_lem m (suc id) l)

-- some rows, their headers before them and `#` after them
part_text : (headers rows : List (List ℕ)) → lines_text headers ++ (lines_text rows ++ lines_text closing) ≡ lines_text (headers ++ (rows ++ closing))
part_text headers rows = sym (text_append headers (rows ++ closing) ∙ ap (λ (s : List ℕ). lines_text headers ++ s) (text_append rows closing))

list_text : (lines : List (List ℕ)) → polymer_list (lines_text lines) ≡ lines_text (polymer_part lines)
unfolding lines_text
list_text [] = refl
list_text ([] ∷ lines) = part_text polymer_headers ([] ∷ lines)
list_text ((b ∷ line) ∷ lines) = part_text polymer_headers ((b ∷ line) ∷ lines)

pub text_lines : (m : Model) → text_of m ≡ lines_text (lines_in m)
unfolding text_of
text_lines m =
    let listed = map (polymer_line m) (polymers m.residues) in
    let rows = atom_lines m 1 m.atoms in
    (λ i. lines_text opening ++ (polymer_list (polymer_text_lem m m.residues i) ++ (lines_text atom_headers ++ (atom_text_lem m 1 m.atoms i ++ lines_text closing))))
    ∙ (λ i. lines_text opening ++ (list_text listed i ++ part_text atom_headers rows i))
    ∙ sym (text_append opening (polymer_part listed ++ (atom_headers ++ (rows ++ closing)))
    ∙ ap (λ (s : List ℕ). lines_text opening ++ s) (text_append (polymer_part listed) (atom_headers ++ (rows ++ closing))))
