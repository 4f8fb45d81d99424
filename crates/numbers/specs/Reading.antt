-- What a text is as a number. Within reach: no word, no exponent, at most 15 digits in all, leading zeros counted, and magnitude at most 1,000,000.
-- The value is the double nearest the decimal, ties to even; the sign of zero is kept.
use Rattle.std.specs.Prelude.{ℕ, ◌+◌, ◌*◌, ◌^◌, List, Bool, ◌&&◌, cond, leb, eqb, length, Float, Result, Ok, Err}
use Rattle.std.specs.Float.{binary64}
use Rattle.std.specs.Float.Ieee.{round}
use Rattle.ascii.specs.Digits.{number_from}
use Rattle.numbers.specs.declared.reading.NumberError.{NumberError}
use Rattle.numbers.specs.declared.reading.NumberError.TheVariants.{OutsideGrammar, BeyondReach}
use Rattle.numbers.specs.Grammar.{Spelling, outside, word, decimal, spelling_of}
use Rattle.numbers.specs.Limits.{most_digits, farthest}

-- the whole number that the digits write without their point: the decimal is this over `10 ^ length places`
unfoldable pub all_together : List ℕ → List ℕ → ℕ
all_together whole places = number_from (number_from 0 whole) places

unfoldable pub within_reach : List ℕ → List ℕ → List ℕ → Bool
within_reach whole places exponent =
    eqb (length exponent) 0 && leb (length whole + length places) most_digits && leb (all_together whole places) (farthest * 10 ^ length places)

-- what at most 15 digits are that write n without their point, so many of them places
abbrev pub value_of : Bool → ℕ → ℕ → Result Float NumberError
value_of negative n places = cond (leb n (farthest * 10 ^ places)) (Ok (round binary64 negative n (10 ^ places))) (Err BeyondReach)

unfoldable pub read_as : Spelling → Result Float NumberError
read_as outside = Err OutsideGrammar
read_as word = Err BeyondReach
read_as (decimal negative whole places exponent) =
    cond (within_reach whole places exponent) (Ok (round binary64 negative (all_together whole places) (10 ^ length places))) (Err BeyondReach)

unfoldable pub number_of : List ℕ → Result Float NumberError
number_of s = read_as (spelling_of s)
