-- A row is never empty, so the polymer list is empty exactly where no residue is of a polymer.
use mathlib.Core.Path.{◌≡◌, refl, sym, ap, ◌∙◌}
use mathlib.Core.Bool.{Bool, true, false, ◌||◌, cond, false≢true}
use mathlib.Core.List.{List, [], ◌∷◌, ◌++◌, map}
use Prim.Native.Nat.{ℕ, ◌<◌}
use native.Mathlib.Omega.{arith}
use lib.ListN.{length, length-append}
use Rattle.ascii.specs.Bytes.{bytes}
use Rattle.tokens.specs.Line.{spaced}
use Rattle.model.specs.Lent.{list_from}
use Rattle.model.specs.Lists.{any}
use Rattle.model.specs.Records.{ResidueRecord, Model}
use Rattle.model.specs.Termini.{is_polymer}
use Rattle.row_texts.specs.Rows.{polymer_fields, polymer_text}
use Rattle.row_texts.specs.declared.loop_rows.PolymerRow.{PolymerRow}
use Rattle.wellformed.proofs.SliceLaws.{map_from}
use Rattle.writer.specs.Text.{lines_text, closing, polymer_headers, polymer_row_of, polymer_rows, polymer_list}

-- a test of the codes is of every residue
pub tested : (at : ℕ → ResidueRecord) (n : ℕ) {some : Bool} → some ≡ any is_polymer (list_from (λ i. (at i).code) 0 n) → some ≡ any is_polymer (map (λ r. r.code) (list_from at 0 n))
tested at n e = e ∙ ap (any is_polymer) (sym (map_from (λ r. r.code) at 0 n))

row_some : (row : PolymerRow) → 0 < length (polymer_text row)
unfolding polymer_text
row_some row = omega (arith, length-append (spaced (polymer_fields row)) (bytes "\n"))

module _ (m : Model) where
  pub rows_none : (l : List ResidueRecord) → any is_polymer (map (λ r. r.code) l) ≡ false → polymer_rows m l ≡ []
  unfolding polymer_rows
  rows_none [] e = refl
  rows_none (r ∷ l) e = go (is_polymer r.code) e (rows_none l)
    where
      go : (b : Bool) → (b || any is_polymer (map (λ r. r.code) l)) ≡ false → (any is_polymer (map (λ r. r.code) l) ≡ false → polymer_rows m l ≡ [])
          → cond b (polymer_text (polymer_row_of m r)) [] ++ polymer_rows m l ≡ []
      go true e f = absurd (false≢true (sym e))
      go false e f = f e

  pub rows_some : (l : List ResidueRecord) → any is_polymer (map (λ r. r.code) l) ≡ true → 0 < length (polymer_rows m l)
  unfolding polymer_rows
  rows_some [] e = absurd (false≢true e)
  rows_some (r ∷ l) e = go (is_polymer r.code) e (rows_some l)
    where
      go : (b : Bool) → (b || any is_polymer (map (λ r. r.code) l)) ≡ true → (any is_polymer (map (λ r. r.code) l) ≡ true → 0 < length (polymer_rows m l))
          → 0 < length (cond b (polymer_text (polymer_row_of m r)) [] ++ polymer_rows m l)
      go true e f = omega (arith, length-append (polymer_text (polymer_row_of m r)) (polymer_rows m l), row_some (polymer_row_of m r))
      go false e f = f e

pub list_some : (rows : List ℕ) → 0 < length rows → polymer_list rows ≡ lines_text polymer_headers ++ (rows ++ lines_text closing)
list_some [] h = absurd (omega arith)
list_some (b ∷ rows) h = refl
