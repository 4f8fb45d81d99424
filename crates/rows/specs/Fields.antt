-- The fields of a row, taken out of its line: each is what the token at its column says.
use Rattle.std.specs.Prelude.{◌≡◌, ℕ, ◌<◌, Bool, false, cond, List, length, Float, Option, Some, None, Result}
use Rattle.ascii.specs.Bytes.{bytes, first}
use Rattle.numbers.specs.declared.reading.NumberError.{NumberError}
use Rattle.numbers.specs.Reading.{number_of}
use Rattle.tokens.specs.Split.{token_in}
use Rattle.tokens.specs.Tokens.{tokens_of, token_at}
use Rattle.token_values.specs.Words.{is_missing, is_hetatm}
use Rattle.token_values.specs.Sequence.{sequence_of}
use Rattle.names.specs.Packing.{packed}
use Rattle.names.specs.Elements.{element_of}
use Rattle.rows.specs.declared.columns.Columns.{Columns}
use Rattle.rows.specs.declared.fields.Name.{Name}
use Rattle.rows.specs.declared.fields.Fields.{Fields}
use Rattle.rows.specs.declared.fields.Tokens.{Tokens}
use Rattle.rows.specs.Columns.{is_absent}
use Rattle.rows.specs.Columns as columns
use Rattle.rows.specs.Reach.{reach_of}

-- a number, or why it is none
abbrev pub Number : Type 0
Number = Result Float NumberError

-- a number that may not be given: `.` or `?`, or no column
abbrev pub Measure : Type 0
Measure = Option Number

-- ---- what a token says

abbrev pub name_of : List ℕ → Name
name_of token = record { length = length token; packed = packed token }

-- "Chain `.` is `?`."
abbrev pub chain_of : List ℕ → Name
chain_of token = cond (is_missing token) (name_of (bytes "?")) (name_of token)

-- "Insertion code: first byte of the token; none for `.` or `?` (the whole token)."
abbrev pub insertion_code_of : List ℕ → ℕ
insertion_code_of token = cond (is_missing token) 0 (first token)

abbrev pub measure_of : List ℕ → Measure
measure_of token = cond (is_missing token) None (Some (number_of token))

-- ---- the token at a column

-- the tokens of the line stand in a cell, one behind the other; a column is below 256
pub record InCell (line cell places : List ℕ) (n : ℕ) : Type 0 where
  pub many : n ≡ length (tokens_of line)
  pub tokens : (k : ℕ) → k < 256 → token_in cell places n k ≡ token_at line k

abbrev pub InTokens : List ℕ → Tokens → Type 0
InTokens line tokens = InCell line tokens.cell.now tokens.places.now tokens.count

-- "An absent column gives no mark, no code, Unknown", and no occupancy
abbrev pub if_declared : {A : Type 0} → ℕ → A → A → A
if_declared column value other = cond (is_absent column) other value

abbrev pub declared_at : List ℕ → ℕ → Option (List ℕ)
declared_at line column = if_declared column (Some (token_at line column)) None

unfoldable pub hetatm_at : List ℕ → ℕ → Bool
hetatm_at line column = if_declared column (is_hetatm (token_at line column)) false

unfoldable pub insertion_code_at : List ℕ → ℕ → ℕ
insertion_code_at line column = if_declared column (insertion_code_of (token_at line column)) 0

unfoldable pub occupancy_at : List ℕ → ℕ → Measure
occupancy_at line column = if_declared column (measure_of (token_at line column)) None

unfoldable pub element_at : List ℕ → ℕ → ℕ
element_at line column = if_declared column (element_of (token_at line column)) 0

-- ---- all of them
unfoldable pub fields_of : Columns → List ℕ → Fields
fields_of c line = record {
  reach = reach_of c (length (tokens_of line));
  hetatm = hetatm_at line (columns.group c);
  atom = name_of (token_at line (columns.atom c));
  residue = name_of (token_at line (columns.residue c));
  chain = chain_of (token_at line (columns.chain c));
  sequence = sequence_of (token_at line (columns.sequence c));
  insertion_code = insertion_code_at line (columns.insertion_code c);
  x = measure_of (token_at line (columns.x c));
  y = measure_of (token_at line (columns.y c));
  z = measure_of (token_at line (columns.z c));
  occupancy = occupancy_at line (columns.occupancy c);
  element = element_at line (columns.symbol c);
}
