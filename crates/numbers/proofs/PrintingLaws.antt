-- Digits counted, and stored from the right; how long a text is.
use mathlib.Core.Path.{◌≡◌, refl, sym, ap, ◌∙◌}
use mathlib.Core.List.{List, [], ◌∷◌, ◌++◌}
use mathlib.Core.Bool.{Bool, true, false, cond}
use mathlib.Core.Logic.{◌⊎◌, inl, inr}
use Prim.Native.Nat.{ℕ, zero, suc, ◌+◌, ◌/◌, ◌%◌, ◌^◌, ◌≤◌, ◌<◌}
use native.Mathlib.Nat.{le_refl, le_trans, le_antisymm, lt_irrefl, lt_of_lt_of_le, le_of_suc-le-suc, pow-suc, zero-lt-suc, div-lt_iff_lt-mul}
use native.Mathlib.Numerals.{add-one}
use native.Mathlib.Omega.{arith}
use lib.Dec.{T, ltb, ltb→lt, lit<}
use lib.ListN.{length, set, length-append}
use lib.Seq.{sets}
use borrow.Author.Tests.{lt-ltb}
use mir.Val.{bool_byte}
use Rattle.ascii.proofs.OutputLaws.{sets_last}
use lib.Ieee.{Float}
use Rattle.std.specs.Prelude.{Result, Err}
use Rattle.ascii.specs.declared.output.NoRoom.{NoRoom}
use Rattle.ascii.specs.Output.{placed_of, buffer_after}
use Rattle.numbers.specs.declared.printing.PrintError.TheVariants as print_error
use Rattle.numbers.specs.Rounding.{printable, units_of, is_negative}
use Rattle.numbers.specs.Printing.{last_digits, count_up_to, digit_count, sign, fixed_text, text_of}
use Rattle.numbers.specs.Writing.{as_printed, printed_of, after_printing}
use Rattle.numbers.proofs.Comparing.{le_or_lt}
use Rattle.numbers.proofs.PowerLaws.{ten_grows}

-- ---- how many digits
pub count_end : (k n : ℕ) → n < 10 → count_up_to k n ≡ 1
unfolding count_up_to
count_end zero n h = refl
count_end (suc k) n h = simp (lt-ltb n 10 h)

-- a tenth of a number has a digit less
tenth : (n j k : ℕ) → j ≡ suc k → n < 10 ^ j → n / 10 < 10 ^ k
tenth n j k e h = (div-lt_iff_lt-mul (zero-lt-suc 9)).1 (rw pow-suc at (rw e at h))

pub count_fits : (k n : ℕ) → count_up_to k n ≤ k + 1
unfolding count_up_to
count_fits zero n = le_refl 1
count_fits (suc k) n = go (ltb n 10) (count_up_to k (n / 10)) (count_fits k (n / 10))
  where
    go : (t : Bool) (c : ℕ) → c ≤ k + 1 → cond t 1 (suc c) ≤ suc k + 1
    go true c h = omega arith
    go false c h = omega arith

-- the digits counted are enough for the number, no more than it needs, and at least one
pub count_enough : (k n : ℕ) → n < 10 ^ suc k → n < 10 ^ count_up_to k n
unfolding count_up_to
count_enough zero n h = h
count_enough (suc k) n h = go (ltb n 10) (ltb→lt n 10) (count_up_to k (n / 10)) (count_enough k (n / 10) (tenth n (suc (suc k)) (suc k) refl h))
  where
    go : (t : Bool) → (T t → n < 10) → (c : ℕ) → n / 10 < 10 ^ c → n < 10 ^ cond t 1 (suc c)
    go true a c l = a tt
    go false a c l = rw pow-suc ((div-lt_iff_lt-mul (zero-lt-suc 9)).0 l)

pub count_few : (k j n : ℕ) → n < 10 ^ suc j → count_up_to k n ≤ suc j
unfolding count_up_to
count_few zero j n h = omega arith
count_few (suc k) zero n h = simp (lt-ltb n 10 h) (le_refl 1)
count_few (suc k) (suc j) n h = go (ltb n 10) (count_up_to k (n / 10)) (count_few k j (n / 10) (tenth n (suc (suc j)) (suc j) refl h))
  where
    go : (t : Bool) (c : ℕ) → c ≤ suc j → cond t 1 (suc c) ≤ suc (suc j)
    go true c l = omega arith
    go false c l = omega arith

pub count_some : (k n : ℕ) → 0 < count_up_to k n
unfolding count_up_to
count_some zero n = lit< tt
count_some (suc k) n = go (ltb n 10) (count_up_to k (n / 10))
  where
    go : (t : Bool) (c : ℕ) → 0 < cond t 1 (suc c)
    go true c = lit< tt
    go false c = zero-lt-suc c

-- by the powers of ten that a number lies between
pub count_is : (n j : ℕ) → j ≤ 19 → 10 ^ j ≤ n → n < 10 ^ suc j → suc j ≡ digit_count n
unfolding digit_count
count_is n j few lo hi = le_antisymm (go (le_or_lt (suc j) (count_up_to 19 n))) (count_few 19 j n hi)
  where
    enough : n < 10 ^ count_up_to 19 n
    enough = count_enough 19 n (lt_of_lt_of_le hi (ten_grows (suc j) 20 (omega arith)))

    go : (suc j ≤ count_up_to 19 n) ⊎ (count_up_to 19 n < suc j) → suc j ≤ count_up_to 19 n
    go (inl h) = h
    go (inr h) = absurd (lt_irrefl n (lt_of_lt_of_le enough (le_trans (ten_grows (count_up_to 19 n) j (le_of_suc-le-suc h)) lo)))

pub digit_count_fits : (n : ℕ) → digit_count n ≤ 20
unfolding digit_count
digit_count_fits n = count_fits 19 n

pub sign_counts : (negative : Bool) → bool_byte negative ≡ length (sign negative)
unfolding sign
sign_counts true = refl
sign_counts false = refl

pub sign_fits : (negative : Bool) → length (sign negative) ≤ 1
unfolding sign
sign_fits true = omega arith
sign_fits false = omega arith

-- ---- digits from the right
pub digits_length : (c n : ℕ) → length (last_digits c n) ≡ c
unfolding last_digits
digits_length zero n = refl
digits_length (suc c) n = length-append (last_digits c (n / 10)) ((48 + n % 10) ∷ []) ∙ add-one (length (last_digits c (n / 10))) ∙ ap suc (digits_length c (n / 10))

pub digits_none : (d : List ℕ) (at c n : ℕ) → c ≡ 0 → sets d at (last_digits c n) ≡ d
unfolding last_digits
digits_none d at c n e = ap (λ (k : ℕ). sets d at (last_digits k n)) e

-- a turn: the last digit is stored, and the others are to come
pub digits_turn : (d : List ℕ) (at c k n b : ℕ) → c ≡ suc k → b ≡ 48 + n % 10 → sets (set d (at + k) b) at (last_digits k (n / 10)) ≡ sets d at (last_digits c n)
unfolding last_digits
digits_turn d at c k n b e f =
    let s = last_digits k (n / 10) in
    ap (λ (x : ℕ). sets (set d (at + x) b) at s) (sym (digits_length k (n / 10)))
    ∙ sets_last d at s b
    ∙ ap (λ (x : ℕ). sets d at (s ++ (x ∷ []))) f
    ∙ ap (λ (x : ℕ). sets d at (last_digits x n)) (sym e)

-- ---- the whole text

-- by its parts, as the code has them: the power p, and the count c of the whole number's digits
pub text_parts : (places : ℕ) (negative : Bool) (n p c : ℕ) → p ≡ 10 ^ places → c ≡ digit_count (n / p)
    → fixed_text places negative n ≡ sign negative ++ (last_digits c (n / p) ++ (46 ∷ last_digits places n))
unfolding fixed_text
text_parts places negative n p c P C = rw (C, P)

pub text_length : (places : ℕ) (negative : Bool) (n p c : ℕ) → p ≡ 10 ^ places → c ≡ digit_count (n / p)
    → length (sign negative) + c + 1 + places ≡ length (fixed_text places negative n)
text_length places negative n p c P C =
    let S = sign negative in
    let W = last_digits c (n / p) in
    let F = last_digits places n in
    sym (ap length (text_parts places negative n p c P C)
    ∙ length-append S (W ++ (46 ∷ F))
    ∙ ap (λ (k : ℕ). length S + k) (length-append W (46 ∷ F))
    ∙ ap (λ (k : ℕ). length S + (k + suc (length F))) (digits_length c (n / p))
    ∙ ap (λ (k : ℕ). length S + (c + suc k)) (digits_length places n)
    ∙ regroup (length S) c places)
  where
    regroup : (a b c : ℕ) → a + (b + suc c) ≡ a + b + 1 + c
    regroup a b c = omega arith

-- a double's text is that of its sign and its units
pub text_of_lem : (places : ℕ) (x : Float) {negative : Bool} {n : ℕ} → negative ≡ is_negative x → n ≡ units_of places x → fixed_text places negative n ≡ text_of places x
unfolding text_of
text_of_lem places x {n = n} s u = ap (λ (t : Bool). fixed_text places t n) s ∙ ap (λ (m : ℕ). fixed_text places (is_negative x) m) u

-- ---- what became of it
module _ (places : ℕ) (x : Float) (buffer : List ℕ) (at : ℕ) where
  pub put_none : printable x ≡ false → (Err print_error.BeyondReach ≡ printed_of places x buffer at) × (buffer ≡ after_printing places x buffer at)
  unfolding printed_of after_printing
  put_none e = (sym (simp e), sym (simp e))

  pub put_some : {negative : Bool} {n : ℕ} {r : Result ℕ NoRoom} {after : List ℕ} → printable x ≡ true → negative ≡ is_negative x → n ≡ units_of places x
      → (r ≡ placed_of buffer at (fixed_text places negative n)) × (after ≡ buffer_after buffer at (fixed_text places negative n))
      → (as_printed r ≡ printed_of places x buffer at) × (after ≡ after_printing places x buffer at)
  unfolding printed_of after_printing
  put_some {negative} {n} e s u p =
      let same : fixed_text places negative n ≡ text_of places x = text_of_lem places x s u in (
        sym (simp e (ap as_printed (sym (p.0 ∙ ap (λ (l : List ℕ). placed_of buffer at l) same)))),
        sym (simp e (sym (p.1 ∙ ap (λ (l : List ℕ). buffer_after buffer at l) same))),
      )
