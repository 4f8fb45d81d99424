-- The domain of a text: 9, 10, 32 to 126, and 13 only directly before 10.
use Rattle.std.specs.Prelude.{ℕ, ◌+◌, Bool, true, ◌&&◌, ◌||◌, cond, List, [], ◌∷◌, eqb, Option, Some, None}
use Rattle.ascii.specs.Bytes.{first, is_text_byte}
use Rattle.lines.specs.declared.domain.Outside.{Outside}

-- b may stand in a text, next being the byte after it
abbrev pub is_allowed : ℕ → ℕ → Bool
is_allowed b next = is_text_byte b || (eqb b 10 || (eqb b 13 && eqb next 10))

unfoldable pub in_domain : List ℕ → Bool
in_domain [] = true
in_domain (b ∷ bs) = is_allowed b (first bs) && in_domain bs

-- ---- the first byte outside

-- the line after b, where b is in this line
abbrev pub line_after : ℕ → ℕ → ℕ
line_after line b = cond (eqb b 10) (line + 1) line

-- in a text that begins in this line
unfoldable pub outside_from : ℕ → List ℕ → Option Outside
outside_from line [] = None
outside_from line (b ∷ bs) = cond (is_allowed b (first bs)) (outside_from (line_after line b) bs) (Some (record { line = line; byte = b }))

abbrev pub outside_of : List ℕ → Option Outside
outside_of text = outside_from 1 text

-- ---- how it is found

-- the line after b, and none where b may not stand there
abbrev pub line_behind : ℕ → ℕ → ℕ → Option ℕ
line_behind line b next = cond (is_allowed b next) (Some (line_after line b)) None

-- b may stand in a text whatever is after it
abbrev pub stands_anywhere : ℕ → Bool
stands_anywhere b = is_text_byte b || eqb b 10
