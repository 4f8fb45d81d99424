-- A residue's sequence number, moved up by 2 ^ 31: a natural number, in the order of the signed numbers.
use Rattle.std.specs.Prelude.{ℕ, ◌+◌, ◌-◌, ◌^◌, cond, List, eqb, leb, ltb}
use Rattle.ascii.specs.Bytes.{byte, first}
use Rattle.ascii.specs.Digits.{all_digits, number_from}
use Rattle.ascii.specs.Signs.{after_sign}

-- the sequence number 1
abbrev pub one : ℕ
one = 2 ^ 31 + 1

-- n, and its negative; 1 where a signed 32-bit number cannot be that
abbrev pub positive_of : ℕ → ℕ
positive_of n = cond (ltb n (2 ^ 31)) (2 ^ 31 + n) one

abbrev pub negative_of : ℕ → ℕ
negative_of n = cond (leb n (2 ^ 31)) (2 ^ 31 - n) one

-- the number with its sign
abbrev pub signed_of : List ℕ → ℕ
signed_of token = cond (eqb (first token) (byte "-")) (negative_of (number_from 0 (after_sign token))) (positive_of (number_from 0 (after_sign token)))

-- text that is no decimal, as `.` and `?` are none, is 1
unfoldable pub sequence_of : List ℕ → ℕ
sequence_of token = cond (all_digits (after_sign token)) (signed_of token) one
