-- The decimal digits of a number are digits alone, as many as are asked for, and write the number again.
use mathlib.Core.Path.{◌≡◌, refl, sym, ◌∙◌}
use mathlib.Core.List.{[], ◌∷◌}
use mathlib.Core.Bool.{true, false}
use Prim.Native.Nat.{ℕ, zero, suc, ◌+◌, ◌/◌, ◌%◌, ◌^◌, ◌≤◌, ◌<◌}
use native.Mathlib.Nat.{mod-eq_of_lt}
use native.Mathlib.Omega.{arith}
use lib.Dec.{eqb, ltb}
use lib.ListN.{length}
use borrow.Author.Tests.{eq-eqb, ne_eqb, le-leb, lt-ltb}
use Rattle.ascii.specs.Bytes.{first, is_text_byte}
use Rattle.ascii.specs.Digits.{digit_run, all_digits, number_from}
use Rattle.ascii.specs.Signs.{is_sign}
use Rattle.numbers.specs.Printing.{last_digits, count_up_to, digit_count}
use Rattle.numbers.proofs.DigitLaws.{below_ten, digits_run, digits_write, BeginsDigit, begins_digit, no_sign}
use Rattle.numbers.proofs.PrintingLaws.{count_enough, count_some, digit_count_fits, digits_length}
use Rattle.tokens.specs.Kinds.{is_plain}
use Rattle.tokens.specs.Quote.{all_plain}
use Rattle.tokens.proofs.QuoteLaws.{plain_append}
use Rattle.model.proofs.ListLaws.{both}
use Rattle.row_texts.specs.Fields.{decimal_of}
use Rattle.return_trip.proofs.FieldLaws.{IsText, text_append, Word}

-- ---- one digit
digit_plain : (x : ℕ) → x < 10 → is_plain (48 + x) ≡ true
digit_plain x h =
    rw (ne_eqb (48 + x) 9 (λ e. omega arith), ne_eqb (48 + x) 32 (λ e. omega arith), ne_eqb (48 + x) 34 (λ e. omega arith), ne_eqb (48 + x) 39 (λ e. omega arith))

digit_text : (x : ℕ) → x < 10 → is_text_byte (48 + x) ≡ true
digit_text x h = rw (ne_eqb (48 + x) 9 (λ e. omega arith), le-leb 32 (48 + x) (omega arith), le-leb (48 + x) 126 (omega arith))

-- ---- many
pub digits_plain : (c n : ℕ) → all_plain (last_digits c n) ≡ true
unfolding last_digits all_plain
digits_plain zero n = refl
digits_plain (suc c) n = plain_append (last_digits c (n / 10)) ((48 + n % 10) ∷ []) (digits_plain c (n / 10)) (both (is_plain (48 + n % 10)) true (digit_plain (n % 10) (below_ten n)) refl)

pub digits_text : (c n : ℕ) → IsText (last_digits c n)
unfolding last_digits
digits_text zero n = refl
digits_text (suc c) n = text_append (last_digits c (n / 10)) ((48 + n % 10) ∷ []) (digits_text c (n / 10)) (both (is_text_byte (48 + n % 10)) true (digit_text (n % 10) (below_ten n)) refl)

-- ---- all the digits of a number
decimal_long : (n : ℕ) → length (decimal_of n) ≡ digit_count n
decimal_long n = digits_length (digit_count n) n

pub decimal_some : (n : ℕ) → 0 < length (decimal_of n)
unfolding digit_count
decimal_some n = omega (arith, decimal_long n, count_some 19 n)

pub decimal_word : (n : ℕ) → Word (decimal_of n)
decimal_word n = record {
  some = decimal_some n;
  plain = digits_plain (digit_count n) n;
  text = digits_text (digit_count n) n;
  short = omega (arith, decimal_long n, digit_count_fits n);
}

pub decimal_digits : (n : ℕ) → all_digits (decimal_of n) ≡ true
unfolding all_digits
decimal_digits n =
    both (ltb 0 (length (decimal_of n))) (eqb (digit_run (decimal_of n)) (length (decimal_of n))) (lt-ltb 0 (length (decimal_of n)) (decimal_some n))
    (eq-eqb (digit_run (decimal_of n)) (length (decimal_of n)) (digits_run (digit_count n) n ∙ sym (decimal_long n)))

pub decimal_number : (n : ℕ) → n < 10 ^ 20 → number_from 0 (decimal_of n) ≡ n
unfolding digit_count
decimal_number n h = digits_write (count_up_to 19 n) n ∙ mod-eq_of_lt (count_enough 19 n h)

-- ---- what it begins with
decimal_begins : (n : ℕ) → BeginsDigit (decimal_of n)
unfolding digit_count
decimal_begins n = go (digit_count n) refl (count_some 19 n)
  where
    go : (c : ℕ) → digit_count n ≡ c → 0 < c → BeginsDigit (decimal_of n)
    go zero e h = absurd (omega arith)
    go (suc c) e h = begins_digit (decimal_of n) c (digits_run (digit_count n) n ∙ e)

pub decimal_first : (n : ℕ) → (48 ≤ first (decimal_of n)) × (first (decimal_of n) ≤ 57)
decimal_first n = ((decimal_begins n).lo, (decimal_begins n).hi)

pub decimal_unsigned : (n : ℕ) → is_sign (first (decimal_of n)) ≡ false
decimal_unsigned n = no_sign (decimal_of n) (decimal_begins n)
