-- Decimal digits: how many a text begins with, and the number that they write.
use Rattle.std.specs.Prelude.{ℕ, suc, ◌+◌, ◌-◌, ◌*◌, ◌^◌, List, [], ◌∷◌, Bool, ◌&&◌, cond, leb, ltb, eqb, length}
use Rattle.ascii.specs.Bytes.{byte}

abbrev pub is_digit : ℕ → Bool
is_digit b = leb (byte "0") b && leb b (byte "9")

-- what a digit counts; 0 for any other byte
abbrev pub digit_of : ℕ → ℕ
digit_of b = cond (is_digit b) (b - byte "0") 0

-- how many digits s begins with
unfoldable pub digit_run : List ℕ → ℕ
digit_run [] = 0
digit_run (b ∷ s) = cond (is_digit b) (suc (digit_run s)) 0

-- some digits, and nothing else
unfoldable pub all_digits : List ℕ → Bool
all_digits s = ltb 0 (length s) && eqb (digit_run s) (length s)

-- the number that the digits s write after those that wrote n
unfoldable pub number_from : ℕ → List ℕ → ℕ
number_from n [] = n
number_from n (b ∷ s) = number_from (n * 10 + digit_of b) s

-- n, or 10 ^ 18 where n is more
unfoldable pub capped : ℕ → ℕ
capped n = cond (ltb n (10 ^ 18)) n (10 ^ 18)
