-- Each field has at most 25 bytes; so has what was counted of it.
use mathlib.Core.Path.{◌≡◌, refl}
use mathlib.Core.Bool.{Bool, true, false, cond}
use mathlib.Core.List.{List, [], ◌∷◌, ◌++◌}
use Prim.Native.Nat.{ℕ, ◌+◌, ◌-◌, ◌/◌, ◌^◌, ◌≤◌, ◌<◌}
use native.Mathlib.Omega.{arith}
use lib.Dec.{eqb, ltb}
use lib.Ieee.{Float}
use lib.ListN.{length, length-append}
use Rattle.ascii.specs.Bytes.{byte, bytes}
use Rattle.numbers.specs.Printing.{last_digits, digit_count, sign, fixed_text, text_of}
use Rattle.numbers.specs.Rounding.{printable, is_negative, units_of}
use Rattle.numbers.proofs.PrintingLaws.{digit_count_fits, digits_length, sign_fits}
use Rattle.tokens.specs.Quote.{all_plain, quote_for, quote_of}
use Rattle.names.specs.Elements.{symbol_of}
use Rattle.names.specs.Packing.{unpacked}
use Rattle.names.proofs.PackingTurns.{unpacked_short}
use Rattle.row_texts.specs.Emitted.{Ends}
use Rattle.row_texts.specs.Fields.{decimal_of, sequence_text, name_text, symbol_text, code_text, group_text, number_text, coordinate_text, FieldLength}
use Rattle.row_texts.proofs.FieldLaws.{sequence_negative, sequence_positive}

abbrev pub Short : List ℕ → Type 0
Short field = length field ≤ 25

module _ (a b : List ℕ) where
  either_short : (t : Bool) → Short a → Short b → Short (cond t a b)
  either_short true p q = p
  either_short false p q = q

pub decimal_fits : (n : ℕ) → length (decimal_of n) ≤ 20
decimal_fits n = omega (arith, digits_length (digit_count n) n, digit_count_fits n)

pub decimal_short : (n : ℕ) → Short (decimal_of n)
decimal_short n = omega (arith, decimal_fits n)

pub sequence_short : (s : ℕ) → Short (sequence_text s)
unfolding sequence_text
sequence_short s =
    either_short (byte "-" ∷ decimal_of (2 ^ 31 - s)) (decimal_of (s - 2 ^ 31)) (ltb s (2 ^ 31))
    (omega (arith, decimal_fits (2 ^ 31 - s)))
    (decimal_short (s - 2 ^ 31))

quote_short : (name : List ℕ) → length name ≤ 8 → Short (quote_of name)
unfolding quote_of
quote_short [] h = omega arith
quote_short (b ∷ s) h =
    let q = quote_for (b ∷ s) in
    either_short (b ∷ s) (q ∷ ((b ∷ s) ++ q ∷ [])) (all_plain (b ∷ s)) (omega arith) (omega (arith, length-append (b ∷ s) (q ∷ [])))

pub name_short : (name : ℕ) → Short (name_text name)
name_short name = quote_short (unpacked name) (unpacked_short 8 name)

pub symbol_short : (element : ℕ) → Short (symbol_text element)
symbol_short element = omega (arith, unpacked_short 8 (symbol_of element))

pub code_short : (code : ℕ) → Short (code_text code)
unfolding code_text
code_short code = either_short (bytes "?") (code ∷ []) (eqb code 0) (omega arith) (omega arith)

pub group_short : (polymer : Bool) → Short (group_text polymer)
unfolding group_text
group_short polymer = either_short (bytes "ATOM") (bytes "HETATM") polymer (omega arith) (omega arith)

pub number_short : (polymer : Bool) (number : ℕ) → Short (number_text polymer number)
unfolding number_text
number_short polymer number = either_short (decimal_of number) (bytes ".") polymer (decimal_short number) (omega arith)

pub coordinate_short : (x : Float) → Short (coordinate_text x)
unfolding text_of fixed_text
coordinate_short x =
    let n = units_of 3 x in
    let whole = last_digits (digit_count (n / 10 ^ 3)) (n / 10 ^ 3) in
    omega (arith, length-append (sign (is_negative x)) (whole ++ (byte "." ∷ last_digits 3 n)), length-append whole (byte "." ∷ last_digits 3 n), sign_fits (is_negative x), digits_length (digit_count (n / 10 ^ 3)) (n / 10 ^ 3), digit_count_fits (n / 10 ^ 3), digits_length 3 n)

-- ---- what was counted
pub counted : {text : List ℕ} {n : ℕ} → n ≡ length text → Short text → FieldLength text n
counted e s = record { long = e; few = rw e s }

-- where the text ends that begins at 0
pub from_the_start : {text : List ℕ} {n : ℕ} → Ends 0 text n → Short text → FieldLength text n
from_the_start {text} {n} e s =
    let long : n ≡ 0 + length text = e (omega (arith, s)) in
    counted (omega arith) s

pub signed_counted : (s : ℕ) {n : ℕ} → s < 2 ^ 31 → n ≡ length (decimal_of (2 ^ 31 - s)) → FieldLength (sequence_text s) (1 + n)
signed_counted s h e = counted (rw (sequence_negative s h) (omega (arith, e))) (sequence_short s)

pub unsigned_counted : (s : ℕ) {n : ℕ} → 2 ^ 31 ≤ s → n ≡ length (decimal_of (s - 2 ^ 31)) → FieldLength (sequence_text s) n
unsigned_counted s h e = counted (rw (sequence_positive s h) e) (sequence_short s)

-- a coordinate without a text counts 0
pub coordinate_counted : (x : Float) {n : ℕ} → (printable x ≡ true → n ≡ length (coordinate_text x)) × (printable x ≡ false → n ≡ 0)
    → (printable x ≡ true → n ≡ length (coordinate_text x)) × (n ≤ 25)
coordinate_counted x {n} p = (p.0, go (printable x) p.0 p.1)
  where
    go : (t : Bool) → (t ≡ true → n ≡ length (coordinate_text x)) → (t ≡ false → n ≡ 0) → n ≤ 25
    go true e f = rw (e refl) (coordinate_short x)
    go false e f = omega (arith, f refl)

-- what the length of a field follows from
pub ruleset short_fields = (counted, from_the_start, decimal_short, symbol_short)
