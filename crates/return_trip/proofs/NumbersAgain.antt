-- A sequence number is read again by its digits and its sign, a coordinate as the double nearest its printed decimal.
use mathlib.Core.Path.{◌≡◌, refl, sym, ap, ◌∙◌, subst}
use mathlib.Core.List.{List, ◌∷◌, ◌++◌}
use mathlib.Core.Bool.{Bool, true, false, ◌||◌, cond}
use Prim.Native.Nat.{ℕ, ◌+◌, ◌-◌, ◌/◌, ◌^◌, ◌≤◌, ◌<◌}
use native.Mathlib.Omega.{arith}
use lib.Dec.{T, eqb, ltb}
use lib.Ieee.{Float}
use lib.ListN.{length, length-append}
use borrow.Author.Tests.{ne_eqb, le-leb, ltb-true, ltb-false, lt-ltb}
use Rattle.std.specs.Prelude.{Some, None, Ok}
use Rattle.ascii.specs.Bytes.{byte, bytes, first, is_text_byte}
use Rattle.ascii.specs.Lists.{every}
use Rattle.ascii.specs.Signs.{is_sign, after_sign}
use Rattle.ascii.specs.Words.{same_bytes}
use Rattle.ascii.specs.Digits.{all_digits, number_from}
use Rattle.ascii.proofs.SignLaws.{after_none}
use Rattle.ascii.proofs.WordLaws.{same_length}
use Rattle.numbers.specs.Printing.{last_digits, digit_count, sign, fixed_text, text_of}
use Rattle.numbers.specs.Reading.{number_of}
use Rattle.numbers.specs.Rounding.{printable, units_of, is_negative}
use Rattle.numbers.proofs.PrintedReadsBack.{printed_reads_back}
use Rattle.numbers.proofs.PrintingLaws.{digits_length, digit_count_fits, sign_fits}
use Rattle.tokens.specs.Quote.{all_plain}
use Rattle.token_values.specs.Sequence.{one, sequence_of, positive_of, negative_of}
use Rattle.tokens.proofs.QuoteLaws.{plain_append}
use Rattle.rows.specs.Fields.{measure_of}
use Rattle.row_texts.specs.Fields.{decimal_of, sequence_text, coordinate_text}
use Rattle.writer.proofs.TextIsShort.{decimal_fits}
use Rattle.return_trip.specs.Returned.{printed}
use Rattle.return_trip.proofs.DigitsAgain.{digits_plain, digits_text, decimal_some, decimal_word, decimal_digits, decimal_number, decimal_first, decimal_unsigned}
use Rattle.return_trip.proofs.FieldLaws.{IsText, text_append, Word}

-- ---- sequence numbers
minus_word : (n : ℕ) → Word (byte "-" ∷ decimal_of n)
unfolding all_plain
minus_word n = let w = decimal_word n in record { some = omega arith; plain = w.plain; text = w.text; short = omega (arith, decimal_fits n) }

pub sequence_word : (s : ℕ) → Word (sequence_text s)
unfolding sequence_text
sequence_word s = go (ltb s (2 ^ 31))
  where
    go : (t : Bool) → Word (cond t (byte "-" ∷ decimal_of (2 ^ 31 - s)) (decimal_of (s - 2 ^ 31)))
    go true = minus_word (2 ^ 31 - s)
    go false = decimal_word (s - 2 ^ 31)

minus_again : (n : ℕ) → n ≤ 2 ^ 31 → sequence_of (byte "-" ∷ decimal_of n) ≡ 2 ^ 31 - n
unfolding sequence_of after_sign is_sign
minus_again n h =
    ap (λ (b : Bool). cond b (negative_of (number_from 0 (decimal_of n))) one) (decimal_digits n)
    ∙ ap negative_of (decimal_number n (omega arith))
    ∙ ap (λ (b : Bool). cond b (2 ^ 31 - n) one) (le-leb n (2 ^ 31) h)

plain_again : (n : ℕ) → n < 2 ^ 31 → sequence_of (decimal_of n) ≡ 2 ^ 31 + n
unfolding sequence_of
plain_again n h =
    let d = decimal_of n in
    let b = decimal_first n in
    ap (λ (s : List ℕ). cond (all_digits s) (cond (eqb (first d) (byte "-")) (negative_of (number_from 0 s)) (positive_of (number_from 0 s))) one) (after_none d (decimal_unsigned n))
    ∙ ap (λ (t : Bool). cond t (signed d) one) (decimal_digits n)
    ∙ ap (λ (t : Bool). cond t (negative_of (number_from 0 d)) (positive_of (number_from 0 d))) (ne_eqb (first d) 45 (λ e. omega (arith, b.0)))
    ∙ ap positive_of (decimal_number n (omega arith))
    ∙ ap (λ (t : Bool). cond t (2 ^ 31 + n) one) (lt-ltb n (2 ^ 31) h)
  where
    signed : List ℕ → ℕ
    signed d = cond (eqb (first d) (byte "-")) (negative_of (number_from 0 d)) (positive_of (number_from 0 d))

pub sequence_again : (s : ℕ) → s < 2 ^ 32 → sequence_of (sequence_text s) ≡ s
unfolding sequence_text
sequence_again s h = go (ltb s (2 ^ 31)) refl
  where
    go : (t : Bool) → ltb s (2 ^ 31) ≡ t → sequence_of (cond t (byte "-" ∷ decimal_of (2 ^ 31 - s)) (decimal_of (s - 2 ^ 31))) ≡ s
    go true e = let l = ltb-true s (2 ^ 31) e in minus_again (2 ^ 31 - s) (omega arith) ∙ omega arith
    go false e = let l = ltb-false s (2 ^ 31) e in plain_again (s - 2 ^ 31) (omega arith) ∙ omega arith

-- ---- coordinates
sign_plain : (negative : Bool) → (all_plain (sign negative) ≡ true) × IsText (sign negative)
unfolding sign all_plain
sign_plain true = (refl, refl)
sign_plain false = (refl, refl)

module _ (x : Float) where
  abbrev units : ℕ
  units = units_of 3 x

  abbrev whole : ℕ
  whole = units / 10 ^ 3

  abbrev places : List ℕ
  places = byte "." ∷ last_digits 3 units

  abbrev unsigned : List ℕ
  unsigned = decimal_of whole ++ places

  coordinate_is : coordinate_text x ≡ sign (is_negative x) ++ unsigned
  unfolding text_of fixed_text
  coordinate_is = refl

  coordinate_long : (5 ≤ length (coordinate_text x)) × (length (coordinate_text x) ≤ 30)
  coordinate_long =
      let all = ap length coordinate_is ∙ length-append (sign (is_negative x)) unsigned in
      let parts = length-append (decimal_of whole) places in
      let three = digits_length 3 units in
      let some = decimal_some whole in
      let few = digit_count_fits whole in
      let count = digits_length (digit_count whole) whole in
      let one = sign_fits (is_negative x) in
      (omega arith, omega arith)

  places_plain : (all_plain places ≡ true) × IsText places
  unfolding all_plain
  places_plain = (digits_plain 3 units, digits_text 3 units)

  pub coordinate_word : Word (coordinate_text x)
  coordinate_word =
      let s = sign_plain (is_negative x) in
      let w = decimal_word whole in
      record {
        some = omega (arith, coordinate_long.0);
        plain = ap all_plain coordinate_is ∙ plain_append (sign (is_negative x)) unsigned s.0 (plain_append (decimal_of whole) places w.plain places_plain.0);
        text = ap (every is_text_byte) coordinate_is ∙ text_append (sign (is_negative x)) unsigned s.1 (text_append (decimal_of whole) places w.text places_plain.1);
        short = coordinate_long.1;
      }

  pub coordinate_again : printable x ≡ true → measure_of (coordinate_text x) ≡ Some (Ok (printed x))
  coordinate_again h =
      let long = coordinate_long.0 in
      ap (λ (t : Bool). cond (t || same_bytes (coordinate_text x) (bytes "?")) None (Some (number_of (coordinate_text x)))) (same_length (coordinate_text x) (bytes ".") (λ e. omega arith))
      ∙ ap (λ (t : Bool). cond t None (Some (number_of (coordinate_text x)))) (same_length (coordinate_text x) (bytes "?") (λ e. omega arith))
      ∙ ap Some (printed_reads_back 3 x (omega arith) (subst T (sym h) tt))
