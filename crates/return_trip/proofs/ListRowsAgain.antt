-- A row of the polymer list begins with a number, so that it is no header and opens no loop.
use mathlib.Core.Path.{◌≡◌, refl, ap, ◌∙◌}
use mathlib.Core.List.{List, [], ◌∷◌, ◌++◌}
use Prim.Native.Nat.{ℕ, ◌≤◌, ◌<◌}
use native.Mathlib.Omega.{arith}
use lib.ListN.{length}
use borrow.Author.Tests.{ne_eqb}
use Rattle.ascii.specs.Bytes.{byte, bytes, first}
use Rattle.ascii.specs.Words.{starts_with, same_bytes}
use Rattle.tokens.specs.Line.{spaced}
use Rattle.tokens.specs.Quote.{all_plain}
use Rattle.line_states.specs.States.{other_in, moved_by_token, moved_by_tokens, moved_by}
use Rattle.line_states.specs.declared.heads.Heads.{Heads}
use Rattle.row_texts.specs.Fields.{decimal_of}
use Rattle.row_texts.specs.Rows.{polymer_fields}
use Rattle.row_texts.specs.declared.loop_rows.PolymerRow.{PolymerRow}
use Rattle.return_trip.proofs.DigitsAgain.{decimal_some, decimal_word, decimal_first}
use Rattle.return_trip.proofs.FieldLaws.{IsText, Field, Word, bare_word, word_field, line_is_text, line_is_short, line_tokens}
use Rattle.return_trip.proofs.NamesAgain.{NameSo, name_field}

first_before : (s t : List ℕ) → 0 < length s → first (s ++ t) ≡ first s
first_before [] t h = absurd (omega arith)
first_before (b ∷ s) t h = refl

begins : (n : ℕ) (rest : List ℕ) → first (decimal_of n ++ rest) ≡ byte "#" → ⊥
begins n rest e = omega (arith, first_before (decimal_of n) rest (decimal_some n), (decimal_first n).0)

digit_moves : (heads : Heads) (token : List ℕ) → 48 ≤ first token → first token ≤ 57 → moved_by_token heads token ≡ other_in heads.state heads
unfolding moved_by_token same_bytes starts_with
digit_moves heads [] h k = absurd (omega arith)
digit_moves heads (b ∷ s) h k = rw (ne_eqb b 108 (λ e. omega arith), ne_eqb b 95 (λ e. omega arith))

letter_word : Word (bytes "n")
unfolding all_plain
letter_word = bare_word (bytes "n") refl

module _ (row : PolymerRow) (named : NameSo row.residue) where
  abbrev fields : List Field
  fields =
      word_field (decimal_of row.entity) (decimal_word row.entity)
      ∷ word_field (decimal_of row.number) (decimal_word row.number)
      ∷ name_field row.residue named
      ∷ word_field (bytes "n") letter_word
      ∷ []

  abbrev line : List ℕ
  line = spaced (polymer_fields row)

  not_comment : first line ≡ byte "#" → ⊥
  unfolding spaced
  not_comment e = begins row.entity _ e

  pub list_row_is_text : IsText (spaced (polymer_fields row))
  list_row_is_text = line_is_text fields

  pub list_row_is_short : length (spaced (polymer_fields row)) ≤ 2048
  list_row_is_short = omega (arith, line_is_short fields)

  pub list_row_moves : (heads : Heads) → moved_by heads (spaced (polymer_fields row)) ≡ other_in heads.state heads
  unfolding moved_by
  list_row_moves heads =
      let d = decimal_first row.entity in
      ap (moved_by_tokens heads) (line_tokens fields not_comment) ∙ digit_moves heads (decimal_of row.entity) d.0 d.1
