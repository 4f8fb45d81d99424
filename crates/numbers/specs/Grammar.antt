-- Rust's grammar for `f64::from_str`: optional sign, then digits, digits with a point, or a point with digits (at least one digit),
-- optional exponent; or, after the sign, inf, infinity, nan in any case.
use Rattle.std.specs.Prelude.{ℕ, ◌+◌, List, [], Bool, ◌&&◌, ◌||◌, cond, eqb, length, take, drop}
use Rattle.ascii.specs.Bytes.{byte, bytes, first}
use Rattle.ascii.specs.Digits.{digit_run, all_digits}
use Rattle.ascii.specs.Letters.{eq_ignore_case}
use Rattle.ascii.specs.Signs.{after_sign}

-- what the grammar sees in a text
pub data Spelling : Type 0 where
  outside : Spelling
  word : Spelling
  -- is it negative; the digits before the point; those after it; the exponent from its letter on, empty where there is none
  decimal : Bool → List ℕ → List ℕ → List ℕ → Spelling

-- ---- the parts of a text

unfoldable pub is_exponent_letter : ℕ → Bool
is_exponent_letter b = eqb b (byte "e") || eqb b (byte "E")

abbrev pub digits : List ℕ → List ℕ
digits s = take (digit_run s) s

abbrev pub after_digits : List ℕ → List ℕ
after_digits s = drop (digit_run s) s

-- ---- the grammar

unfoldable pub is_word : List ℕ → Bool
is_word s = eq_ignore_case s (bytes "inf") || eq_ignore_case s (bytes "infinity") || eq_ignore_case s (bytes "nan")

unfoldable pub is_exponent : List ℕ → Bool
is_exponent s = is_exponent_letter (first s) && all_digits (after_sign (drop 1 s))

-- digits before the point, digits after it, and the rest
unfoldable pub parts : Bool → List ℕ → List ℕ → List ℕ → Spelling
parts negative whole places rest =
    cond (eqb (length whole + length places) 0) outside
    (cond (eqb (length rest) 0 || is_exponent rest) (decimal negative whole places rest) outside)

-- digits, and the rest, which may begin with a point and more digits
unfoldable pub after_whole : Bool → List ℕ → List ℕ → Spelling
after_whole negative whole rest =
    cond (eqb (first rest) (byte ".")) (parts negative whole (digits (drop 1 rest)) (after_digits (drop 1 rest))) (parts negative whole [] rest)

unfoldable pub unsigned : Bool → List ℕ → Spelling
unsigned negative s = cond (is_word s) word (after_whole negative (digits s) (after_digits s))

unfoldable pub spelling_of : List ℕ → Spelling
spelling_of s = unsigned (eqb (first s) (byte "-")) (after_sign s)
