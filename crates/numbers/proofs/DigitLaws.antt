-- The last decimal digits of a number: their run is as long as they are many, they write the number again, and a run of digits begins with no sign.
use mathlib.Core.Path.{◌≡◌, refl, sym, ap, ◌∙◌}
use mathlib.Core.List.{List, [], ◌∷◌, ◌++◌, append_assoc, append-nil}
use mathlib.Core.Bool.{Bool, true, false, ◌&&◌, cond}
use Prim.Native.Nat.{ℕ, zero, suc, ◌+◌, ◌-◌, ◌*◌, ◌/◌, ◌%◌, ◌^◌, ◌≤◌, ◌<◌}
use native.Mathlib.Nat.{zero-add, add-zero, zero-mul, pow-suc, mod-lt, zero-lt-suc}
use native.Mathlib.Omega.{arith}
use lib.Arith.{mod-mul}
use lib.Dec.{T, leb, leb→le, lit<}
use borrow.Author.Tests.{ne_eqb, le-leb}
use Rattle.ascii.specs.Bytes.{first}
use Rattle.ascii.specs.Digits.{is_digit, digit_of, digit_run, number_from}
use Rattle.ascii.specs.Signs.{is_sign}
use Rattle.numbers.specs.Printing.{last_digits}
use Rattle.numbers.proofs.PowerLaws.{ten_positive}

-- ---- a digit
pub digit_yes : (x : ℕ) → x < 10 → is_digit (48 + x) ≡ true
digit_yes x h = simp (le-leb 48 (48 + x) (omega arith), le-leb (48 + x) 57 (omega arith))

pub digit_is : (x : ℕ) → x < 10 → digit_of (48 + x) ≡ x
digit_is x h = ap (λ (b : Bool). cond b (48 + x - 48) 0) (digit_yes x h) ∙ omega arith

pub below_ten : (n : ℕ) → n % 10 < 10
below_ten n = mod-lt n (zero-lt-suc 9)

-- ---- the last digits of a number: how long their run is, and what they write
run_digit : (x : ℕ) (t : List ℕ) → x < 10 → digit_run ((48 + x) ∷ t) ≡ suc (digit_run t)
unfolding digit_run
run_digit x t h = simp (digit_yes x h)

pub run_digits : (c n : ℕ) (t : List ℕ) → digit_run (last_digits c n ++ t) ≡ c + digit_run t
unfolding last_digits
run_digits zero n t = sym (zero-add (digit_run t))
run_digits (suc c) n t =
    ap digit_run (append_assoc (last_digits c (n / 10)) ((48 + n % 10) ∷ []) t)
    ∙ run_digits c (n / 10) ((48 + n % 10) ∷ t)
    ∙ ap (λ (k : ℕ). c + k) (run_digit (n % 10) t (below_ten n))
    ∙ omega arith

pub digits_run : (c n : ℕ) → digit_run (last_digits c n) ≡ c
unfolding digit_run
digits_run c n = ap digit_run (sym (append-nil (last_digits c n))) ∙ run_digits c n [] ∙ add-zero c

from_append : (m : ℕ) (s t : List ℕ) → number_from m (s ++ t) ≡ number_from (number_from m s) t
unfolding number_from
from_append m [] t = refl
from_append m (b ∷ s) t = from_append (m * 10 + digit_of b) s t

pub from_digits : (m c n : ℕ) → number_from m (last_digits c n) ≡ m * 10 ^ c + n % 10 ^ c
unfolding last_digits number_from
from_digits m zero n = omega arith
from_digits m (suc c) n =
    let p = 10 ^ c in
    from_append m (last_digits c (n / 10)) ((48 + n % 10) ∷ [])
    ∙ ap (λ (k : ℕ). k * 10 + digit_of (48 + n % 10)) (from_digits m c (n / 10))
    ∙ ap (λ (d : ℕ). (m * p + n / 10 % p) * 10 + d) (digit_is (n % 10) (below_ten n))
    ∙ regroup m p (n / 10 % p) (n % 10)
    ∙ ap (λ (k : ℕ). m * (p * 10) + k) (sym (mod-mul n (ten_positive c) (zero-lt-suc 9)))
    ∙ ap (λ (q : ℕ). m * q + n % q) (sym (pow-suc 10 c))
  where
    regroup : (m p q r : ℕ) → (m * p + q) * 10 + r ≡ m * (p * 10) + (q * 10 + r)
    regroup m p q r = omega arith

pub digits_write : (c n : ℕ) → number_from 0 (last_digits c n) ≡ n % 10 ^ c
digits_write c n = from_digits 0 c n ∙ ap (λ (k : ℕ). k + n % 10 ^ c) (zero-mul (10 ^ c)) ∙ zero-add (n % 10 ^ c)

-- ---- no sign begins with a digit
pub record BeginsDigit (s : List ℕ) : Type 0 where
  pub lo : 48 ≤ first s
  pub hi : first s ≤ 57

pub begins_digit : (s : List ℕ) (k : ℕ) → digit_run s ≡ suc k → BeginsDigit s
unfolding digit_run
begins_digit [] k e = absurd (no e)
  where
    no : 0 ≡ suc k → ⊥
    no e = omega arith
begins_digit (b ∷ s) k e = go (leb 48 b) (leb b 57) (leb→le 48 b) (leb→le b 57) e
  where
    no : 0 ≡ suc k → ⊥
    no e = omega arith

    go : (u v : Bool) → (T u → 48 ≤ b) → (T v → b ≤ 57) → cond (u && v) (suc (digit_run s)) 0 ≡ suc k → BeginsDigit (b ∷ s)
    go true true h j e = record { lo = h tt; hi = j tt }
    go true false h j e = absurd (no e)
    go false v h j e = absurd (no e)

pub differs : (s : List ℕ) (b : ℕ) → BeginsDigit s → b < 48 → first s ≡ b → ⊥
differs s b d h e = omega arith

pub no_sign : (s : List ℕ) → BeginsDigit s → is_sign (first s) ≡ false
unfolding is_sign
no_sign s d = simp (ne_eqb (first s) 45 (differs s 45 d (lit< tt)), ne_eqb (first s) 43 (differs s 43 d (lit< tt)))
