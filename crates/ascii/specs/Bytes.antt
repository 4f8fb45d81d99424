-- Texts as lists of bytes, so that a definition can quote what document 01 quotes: `byte "-"` is 45, `bytes "inf"` is 105, 110, 102.
use Rattle.std.specs.Prelude.{ℕ, Bool, ◌&&◌, ◌||◌, List, [], ◌∷◌, eqb, leb, get_or}
use Prim.Native.Char.{Char, code}
use Prim.Native.String.{String}
use Prim.Native.String as string

abbrev pub byte : Char → ℕ
byte c = code c

abbrev pub bytes : String → List ℕ
bytes string.[] = []
bytes (string.◌∷◌ c s) = byte c ∷ bytes s

-- the first byte; 0 where there is none
abbrev pub first : List ℕ → ℕ
first s = get_or s 0 0

-- 9 or 32 to 126: what may stand on a line
abbrev pub is_text_byte : ℕ → Bool
is_text_byte b = eqb b 9 || (leb 32 b && leb b 126)
