-- The lines of a text: each ends at 10 or at 13 10, and the last one needs no ending.
use Rattle.std.specs.Prelude.{◌≡◌, ℕ, zero, suc, ◌+◌, ◌-◌, ◌≤◌, ◌<◌, Bool, cond, not, ◌&&◌, List, [], ◌∷◌, eqb, length, get_or, take, drop}
use Rattle.ascii.specs.Bytes.{first}
use Rattle.lines.specs.declared.lines.Line.{Line}

-- b stands in front of the first line
abbrev pub onto : ℕ → List (List ℕ) → List (List ℕ)
onto b [] = (b ∷ []) ∷ []
onto b (line ∷ lines) = (b ∷ line) ∷ lines

-- what b makes of the lines of the text bs behind it: 10 ends a line, and 13 directly before 10 is no part of one
abbrev pub front : ℕ → List ℕ → List (List ℕ) → List (List ℕ)
front b bs lines = cond (eqb b 10) ([] ∷ lines) (cond (eqb b 13 && eqb (first bs) 10) lines (onto b lines))

unfoldable pub lines_of : List ℕ → List (List ℕ)
lines_of [] = []
lines_of (b ∷ bs) = front b bs (lines_of bs)

-- ---- where a line ends

-- how many bytes the ending at index i has: one for 10, two for 13 10, and none where no ending is
abbrev pub ending_at : List ℕ → ℕ → ℕ
ending_at text i = cond (eqb (get_or text i 0) 10) 1 (cond (eqb (get_or text i 0) 13 && eqb (get_or text (i + 1) 0) 10) 2 0)

-- the line that begins at from is the bytes before end, and the lines after it are those of the text from next on
pub record LineAt (text : List ℕ) (from : ℕ) (r : Line) : Type 0 where
  pub lines : lines_of (drop from text) ≡ take (r.end - from) (drop from text) ∷ lines_of (drop r.next text)
  pub ending : r.next ≡ r.end + ending_at text r.end
  pub starts : from ≤ r.end
  pub onward : r.end ≤ r.next
  pub moves : from < r.next
  pub inside : r.next ≤ length text

-- from the text's end on no line begins, and the end is answered
pub record LineOrEnd (text : List ℕ) (from : ℕ) (r : Line) : Type 0 where
  pub line : from < length text → LineAt text from r
  pub past : length text ≤ from → r ≡ record { end = length text; next = length text }

-- ---- how it is found

-- how many bytes stand before the first 10, all where there is none
unfoldable pub feed_place : List ℕ → ℕ
feed_place [] = 0
feed_place (b ∷ bs) = cond (eqb b 10) 0 (suc (feed_place bs))

abbrev pub is_feed : ℕ → Bool
is_feed b = eqb b 10

abbrev pub is_no_feed : ℕ → Bool
is_no_feed b = not (is_feed b)

-- the first i bytes are in the text, and no 10 is among them
abbrev pub NoFeedBefore : List ℕ → ℕ → Type 0
NoFeedBefore text i = (i ≤ length text) × (feed_place text ≡ i + feed_place (drop i text))

-- the length of the line before the 10 at this place: a 13 directly before the 10 belongs to the ending
abbrev pub line_length : List ℕ → ℕ → ℕ
line_length text zero = 0
line_length text (suc n) = cond (eqb (get_or text n 0) 13) n (suc n)
