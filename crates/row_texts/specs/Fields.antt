-- The text of each field of a row.
use Rattle.std.specs.Prelude.{ℕ, ◌-◌, ◌^◌, ◌≤◌, ◌≡◌, Bool, cond, List, [], ◌∷◌, eqb, ltb, Float, length}
use Rattle.ascii.specs.Bytes.{byte, bytes}
use Rattle.numbers.specs.Printing.{last_digits, digit_count, text_of}
use Rattle.tokens.specs.Quote.{quote_of}
use Rattle.names.specs.Packing.{unpacked}
use Rattle.names.specs.Elements.{symbol_of}

abbrev pub decimal_of : ℕ → List ℕ
decimal_of n = last_digits (digit_count n) n

-- a sequence number, which is kept moved up by 2 ^ 31
unfoldable pub sequence_text : ℕ → List ℕ
sequence_text s = cond (ltb s (2 ^ 31)) (byte "-" ∷ decimal_of (2 ^ 31 - s)) (decimal_of (s - 2 ^ 31))

-- "Names go through `quote_string`"
abbrev pub name_text : ℕ → List ℕ
name_text name = quote_of (unpacked name)

abbrev pub symbol_text : ℕ → List ℕ
symbol_text element = unpacked (symbol_of element)

-- "no insertion code `?`"
unfoldable pub code_text : ℕ → List ℕ
code_text code = cond (eqb code 0) (bytes "?") (code ∷ [])

-- "Polymer means protein or nucleic: group ATOM and numbered from 1 in its chain; others HETATM and `.`."
unfoldable pub group_text : Bool → List ℕ
group_text polymer = cond polymer (bytes "ATOM") (bytes "HETATM")

unfoldable pub number_text : Bool → ℕ → List ℕ
number_text polymer number = cond polymer (decimal_of number) (bytes ".")

-- three places
abbrev pub coordinate_text : Float → List ℕ
coordinate_text x = text_of 3 x

-- ---- their lengths

-- n is how many bytes a field has, and they are few, so that no sum of such lengths wraps
pub record FieldLength (text : List ℕ) (n : ℕ) : Type 0 where
  pub long : n ≡ length text
  pub few : n ≤ 25
