-- A row of the atom loop is read as it was written: its line has nineteen tokens, and the reader's columns find each where the headers put it.
use mathlib.Core.Path.{◌≡◌, refl, sym, ap, ◌∙◌, subst}
use mathlib.Core.List.{List, [], ◌∷◌, ◌++◌, map}
use mathlib.Core.Bool.{Bool, true, false, not}
use Prim.Native.Nat.{ℕ, ◌^◌, ◌≤◌, ◌<◌}
use native.Mathlib.Omega.{arith}
use lib.Dec.{eqb}
use lib.Ieee as ieee
use lib.ListN.{length, get_or}
use Rattle.std.specs.Prelude.{Some, Ok}
use Rattle.ascii.specs.Bytes.{byte, bytes, first}
use Rattle.ascii.specs.Digits.{digit_run, number_from}
use Rattle.ascii.specs.Letters.{eq_ignore_case}
use Rattle.ascii.specs.Signs.{is_sign, after_sign}
use Rattle.ascii.specs.Words.{same_bytes}
use Rattle.numbers.specs.Grammar.{is_word, parts, after_whole, unsigned, spelling_of}
use Rattle.numbers.specs.Reading.{all_together, within_reach, read_as, number_of}
use Rattle.numbers.specs.Rounding.{printable}
use Rattle.tokens.specs.Line.{spaced}
use Rattle.tokens.specs.Quote.{all_plain}
use Rattle.token_values.specs.Sequence.{sequence_of}
use Rattle.tokens.specs.Tokens.{tokens_of, token_at}
use Rattle.token_values.specs.Words.{is_hetatm}
use Rattle.names.specs.Elements.{element_of}
use Rattle.names.specs.Packing.{packed, unpacked}
use Rattle.names.proofs.SymbolsReadAgain.{read_again}
use Rattle.rows.specs.declared.settings.Settings.{Settings}
use Rattle.rows.specs.declared.columns.Columns.{Columns}
use Rattle.rows.specs.declared.fields.Name.{Name}
use Rattle.rows.specs.declared.rules.Site.{Site}
use Rattle.rows.specs.Fields.{name_of, chain_of, insertion_code_of, measure_of, hetatm_at, insertion_code_at, occupancy_at, element_at, fields_of}
use Rattle.rows.specs.Reach.{first_absent, missing_column, misses, reach_of}
use Rattle.rows.specs.Rules.{one, row_of}
use Rattle.rows.proofs.RowsKept.{NamesFit, kept}
use Rattle.line_states.specs.States.{moved_by_token, moved_by_tokens, moved_by}
use Rattle.line_states.specs.declared.heads.Heads.{Heads}
use Rattle.row_texts.specs.Fields.{decimal_of, sequence_text, symbol_text, code_text, group_text, number_text, coordinate_text}
use Rattle.row_texts.specs.Rows.{atom_fields}
use Rattle.row_texts.specs.declared.loop_rows.AtomRow.{AtomRow}
use Rattle.return_trip.specs.Returned.{printed_point}
use Rattle.return_trip.proofs.DigitsAgain.{decimal_word}
use Rattle.return_trip.proofs.FieldLaws.{IsText, Field, Word, bare_word, word_field, line_is_text, line_is_short, line_tokens}
use Rattle.return_trip.proofs.CodesAgain.{CodeSo, code_word, code_again, group_word, group_again, number_word}
use Rattle.return_trip.proofs.NamesAgain.{NameSo, name_again, name_short, name_field, chain_again, symbol_word}
use Rattle.return_trip.proofs.NumbersAgain.{sequence_word, sequence_again, coordinate_word, coordinate_again}

-- what the row of an atom says to a reader
abbrev pub site_of_row : AtomRow → Site
site_of_row row = record {
  chain = row.chain;
  sequence = row.sequence;
  insertion_code = row.insertion_code;
  residue = row.residue;
  hetatm = not row.polymer;
  atom = row.atom;
  element = row.element;
  position = printed_point row.position;
  occupancy = one;
  assumed = false;
}

-- a row that a text can hold
pub record RowSo (row : AtomRow) : Type 0 where
  pub element : row.element ≤ 118
  pub atom : NameSo row.atom
  pub residue : NameSo row.residue
  pub chain : NameSo row.chain
  pub no_point : eqb row.chain (packed (bytes ".")) ≡ false
  pub code : CodeSo row.insertion_code
  pub sequence : row.sequence < 2 ^ 32
  pub x : printable row.position.x ≡ true
  pub y : printable row.position.y ≡ true
  pub z : printable row.position.z ≡ true

-- where the writer's headers put the fifteen items
abbrev pub written_columns : Columns
written_columns = record { places = 0 ∷ 18 ∷ 3 ∷ 16 ∷ 5 ∷ 17 ∷ 6 ∷ 15 ∷ 8 ∷ 9 ∷ 10 ∷ 11 ∷ 12 ∷ 13 ∷ 2 ∷ [] }

abbrev pub atom_line : AtomRow → List ℕ
atom_line row = spaced (atom_fields row)

-- ---- what every row holds
point_word : Word (bytes ".")
unfolding all_plain
point_word = bare_word (bytes ".") refl

occupancy_word : Word (bytes "1.00")
unfolding all_plain
occupancy_word = bare_word (bytes "1.00") refl

factor_word : Word (bytes "0.00")
unfolding all_plain
factor_word = bare_word (bytes "0.00") refl

occupancy_again : measure_of (bytes "1.00") ≡ Some (Ok one)
unfolding same_bytes number_of read_as within_reach all_together spelling_of unsigned after_whole parts is_word eq_ignore_case digit_run number_from after_sign is_sign ieee.round ieee.units ieee.odd ieee.size ieee.climb ieee.span ieee.of_bits ieee.of_fields
occupancy_again = refl

begins : (polymer : Bool) (rest : List ℕ) → first (group_text polymer ++ rest) ≡ byte "#" → ⊥
unfolding group_text
begins true rest e = omega arith
begins false rest e = omega arith

module _ (row : AtomRow) (so : RowSo row) where
  abbrev fields : List Field
  fields =
      word_field (group_text row.polymer) (group_word row.polymer)
      ∷ word_field (decimal_of row.id) (decimal_word row.id)
      ∷ word_field (symbol_text row.element) (symbol_word row.element so.element)
      ∷ name_field row.atom so.atom
      ∷ word_field (bytes ".") point_word
      ∷ name_field row.residue so.residue
      ∷ name_field row.chain so.chain
      ∷ word_field (decimal_of row.entity) (decimal_word row.entity)
      ∷ word_field (number_text row.polymer row.number) (number_word row.polymer row.number)
      ∷ word_field (code_text row.insertion_code) (code_word row.insertion_code so.code)
      ∷ word_field (coordinate_text row.position.x) (coordinate_word row.position.x)
      ∷ word_field (coordinate_text row.position.y) (coordinate_word row.position.y)
      ∷ word_field (coordinate_text row.position.z) (coordinate_word row.position.z)
      ∷ word_field (bytes "1.00") occupancy_word
      ∷ word_field (bytes "0.00") factor_word
      ∷ word_field (sequence_text row.sequence) (sequence_word row.sequence)
      ∷ name_field row.residue so.residue
      ∷ name_field row.chain so.chain
      ∷ name_field row.atom so.atom
      ∷ []

  abbrev tokens : List (List ℕ)
  tokens = map (λ f. f.token) fields

  not_comment : first (atom_line row) ≡ byte "#" → ⊥
  unfolding spaced
  not_comment e = begins row.polymer _ e

  pub row_is_text : IsText (atom_line row)
  row_is_text = line_is_text fields

  pub row_is_short : length (atom_line row) ≤ 2048
  row_is_short = omega (arith, line_is_short fields)

  row_tokens : tokens_of (atom_line row) ≡ tokens
  row_tokens = line_tokens fields not_comment

  -- what it does to a reader's state goes by its group
  pub row_moves : (heads : Heads) → moved_by heads (atom_line row) ≡ moved_by_token heads (group_text row.polymer)
  unfolding moved_by
  row_moves heads = ap (moved_by_tokens heads) row_tokens

  at : (k : ℕ) → token_at (atom_line row) k ≡ get_or tokens k []
  unfolding token_at
  at k = ap (λ (ts : List (List ℕ)). get_or ts k []) row_tokens

  -- ---- what its fields say
  reaches : reach_of written_columns (length (tokens_of (atom_line row))) ≡ Ok tt
  unfolding reach_of missing_column first_absent misses
  reaches = ap (λ (ts : List (List ℕ)). reach_of written_columns (length ts)) row_tokens

  chain_name : chain_of (token_at (atom_line row) 17) ≡ name_of (unpacked row.chain)
  chain_name = ap chain_of (at 17) ∙ chain_again row.chain so.chain.named so.no_point

  fit : NamesFit (fields_of written_columns (atom_line row))
  unfolding fields_of
  fit = record {
    atom = subst (λ (s : List ℕ). length s ≤ 8) (sym (at 18)) (name_short row.atom);
    residue = subst (λ (s : List ℕ). length s ≤ 8) (sym (at 16)) (name_short row.residue);
    chain = subst (λ (n : Name). n.length ≤ 8) (sym chain_name) (name_short row.chain);
  }

  -- ---- the theorem
  pub row_again : (settings : Settings) → row_of settings (fields_of written_columns (atom_line row)) ≡ Ok (Some (site_of_row row))
  unfolding fields_of hetatm_at insertion_code_at occupancy_at element_at
  row_again settings =
      kept settings (fields_of written_columns (atom_line row)) reaches
      (ap measure_of (at 10) ∙ coordinate_again row.position.x so.x)
      (ap measure_of (at 11) ∙ coordinate_again row.position.y so.y)
      (ap measure_of (at 12) ∙ coordinate_again row.position.z so.z)
      (ap measure_of (at 13) ∙ occupancy_again)
      fit
      ∙ (λ i. Ok (Some (record {
        chain = (ap (λ (n : Name). n.packed) chain_name ∙ name_again row.chain so.chain.named) i;
        sequence = (ap sequence_of (at 15) ∙ sequence_again row.sequence so.sequence) i;
        insertion_code = (ap insertion_code_of (at 9) ∙ code_again row.insertion_code so.code) i;
        residue = (ap packed (at 16) ∙ name_again row.residue so.residue.named) i;
        hetatm = (ap is_hetatm (at 0) ∙ group_again row.polymer) i;
        atom = (ap packed (at 18) ∙ name_again row.atom so.atom.named) i;
        element = (ap element_of (at 2) ∙ read_again row.element so.element) i;
        position = printed_point row.position;
        occupancy = one;
        assumed = false;
      })))
