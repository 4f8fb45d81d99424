-- The text of a number with so many places: "-12.345". The minus sign is kept on "-0.000".
use Rattle.std.specs.Prelude.{ℕ, zero, suc, ◌+◌, ◌/◌, ◌%◌, ◌^◌, List, [], ◌∷◌, ◌++◌, Bool, cond, ltb, Float}
use Rattle.ascii.specs.Bytes.{byte}
use Rattle.numbers.specs.Rounding.{units_of, is_negative}

-- the last c decimal digits of n, zeros in front where it has fewer
unfoldable pub last_digits : ℕ → ℕ → List ℕ
last_digits zero n = []
last_digits (suc c) n = last_digits c (n / 10) ++ ((byte "0" + n % 10) ∷ [])

-- how many decimal digits n has, counted up to k + 1 of them
unfoldable pub count_up_to : ℕ → ℕ → ℕ
count_up_to zero n = 1
count_up_to (suc k) n = cond (ltb n 10) 1 (suc (count_up_to k (n / 10)))

-- a number of 64 bits has at most 20
unfoldable pub digit_count : ℕ → ℕ
digit_count n = count_up_to 19 n

unfoldable pub sign : Bool → List ℕ
sign negative = cond negative (byte "-" ∷ []) []

-- n units of the last of so many places
unfoldable pub fixed_text : ℕ → Bool → ℕ → List ℕ
fixed_text places negative n = sign negative ++ (last_digits (digit_count (n / 10 ^ places)) (n / 10 ^ places) ++ (byte "." ∷ last_digits places n))

unfoldable pub text_of : ℕ → Float → List ℕ
text_of places x = fixed_text places (is_negative x) (units_of places x)
