-- A sequence number by cases: what is no decimal is 1, and a decimal is its number with its sign, for which the capped number serves, since past the cap both are 1.
use mathlib.Core.Path.{◌≡◌, refl, sym, ap, ◌∙◌}
use mathlib.Core.List.{List}
use mathlib.Core.Bool.{Bool, true, false, not, ◌||◌, cond}
use Prim.Native.Nat.{ℕ, ◌+◌, ◌-◌, ◌^◌, ◌≤◌, ◌<◌}
use native.Mathlib.Nat.{le_of_lt}
use native.Mathlib.Omega.{arith}
use lib.Dec.{T, eqb, leb, ltb, ltb→lt, nltb→le}
use borrow.Author.Tests.{eq-eqb, ne_eqb, le-ltb, lt-leb}
use Rattle.ascii.specs.Bytes.{byte, bytes, first}
use Rattle.ascii.specs.Digits.{digit_run, all_digits, number_from, capped}
use Rattle.ascii.proofs.DigitLaws.{capped_large, capped_small}
use Rattle.ascii.specs.Signs.{is_sign, after_sign}
use Rattle.ascii.specs.Words.{same_bytes}
use Rattle.ascii.proofs.WordLaws.{same_equal}
use Rattle.token_values.specs.Words.{is_missing}
use Rattle.token_values.specs.Sequence.{one, positive_of, negative_of, signed_of, sequence_of}

-- ---- the cap
-- a function that is the same from 10 ^ 18 on takes the capped number as well
past_cap : (f : ℕ → ℕ) → ((m : ℕ) → 10 ^ 18 ≤ m → f m ≡ one) → (n : ℕ) → f (capped n) ≡ f n
past_cap f h n = go (ltb n (10 ^ 18)) (ltb→lt n (10 ^ 18)) (nltb→le n (10 ^ 18))
  where
    go : (t : Bool) → (T t → n < 10 ^ 18) → (T (not t) → 10 ^ 18 ≤ n) → f (capped n) ≡ f n
    go true below above = ap f (capped_small n (le_of_lt (below tt)))
    go false below above = ap f (capped_large n (above tt)) ∙ h (10 ^ 18) (omega arith) ∙ sym (h n (above tt))

positive_past : (m : ℕ) → 10 ^ 18 ≤ m → positive_of m ≡ one
positive_past m h = rw (le-ltb m (2 ^ 31) (omega arith))

negative_past : (m : ℕ) → 10 ^ 18 ≤ m → negative_of m ≡ one
negative_past m h = rw (lt-leb m (2 ^ 31) (omega arith))

-- ---- what every answer has
-- it fits in 32 bits
pub sequence_below : (token : List ℕ) → sequence_of token < 2 ^ 32
unfolding sequence_of
sequence_below token = go (all_digits (after_sign token)) (eqb (first token) (byte "-"))
  where
    n : ℕ
    n = number_from 0 (after_sign token)

    up : (t : Bool) → (T t → n < 2 ^ 31) → cond t (2 ^ 31 + n) one < 2 ^ 32
    up true h = omega (arith, h tt)
    up false h = omega arith

    down : (t : Bool) → cond t (2 ^ 31 - n) one < 2 ^ 32
    down true = omega arith
    down false = omega arith

    go : (t u : Bool) → cond t (cond u (negative_of n) (positive_of n)) one < 2 ^ 32
    go true true = down (leb n (2 ^ 31))
    go true false = up (ltb n (2 ^ 31)) (ltb→lt n (2 ^ 31))
    go false u = omega arith

-- a missing value is 1
pub missing_sequence : (token : List ℕ) → is_missing token ≡ true → sequence_of token ≡ one
unfolding sequence_of all_digits after_sign is_sign digit_run
missing_sequence token e = go (same_bytes token (bytes ".")) (same_bytes token (bytes "?")) (same_equal token (bytes ".")) (same_equal token (bytes "?")) e
  where
    go :
        (t u : Bool) → (t ≡ true → token ≡ bytes ".") → (u ≡ true → token ≡ bytes "?") → (t || u) ≡ true
        → sequence_of token ≡ one
    go true u h k f = ap sequence_of (h refl)
    go false u h k f = ap sequence_of (k f)

-- ---- the cases
module _ (token : List ℕ) where
  pub no_decimal : all_digits (after_sign token) ≡ false → sequence_of token ≡ one
  unfolding sequence_of
  no_decimal e = rw e

  decimal : all_digits (after_sign token) ≡ true → sequence_of token ≡ signed_of token
  unfolding sequence_of
  decimal e = rw e

  pub with_minus : all_digits (after_sign token) ≡ true → first token ≡ byte "-" → negative_of (capped (number_from 0 (after_sign token))) ≡ sequence_of token
  with_minus e m = past_cap negative_of negative_past (number_from 0 (after_sign token)) ∙ sym (decimal e ∙ rw (eq-eqb (first token) (byte "-") m))

  pub without_minus : all_digits (after_sign token) ≡ true → (first token ≡ byte "-" → ⊥) → positive_of (capped (number_from 0 (after_sign token))) ≡ sequence_of token
  without_minus e m = past_cap positive_of positive_past (number_from 0 (after_sign token)) ∙ sym (decimal e ∙ rw (ne_eqb (first token) (byte "-") m))
