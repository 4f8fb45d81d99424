-- Each case of the grammar, by what the tests on the way to it said.
use mathlib.Core.Path.{◌≡◌, refl, sym, ap, ◌∙◌}
use mathlib.Core.Logic.{◌⊎◌, inl, inr}
use mathlib.Core.List.{List, [], ◌∷◌}
use mathlib.Core.Bool.{Bool, true, false, cond, false≢true}
use Prim.Native.Nat.{ℕ, ◌+◌, ◌-◌, ◌<◌}
use native.Mathlib.Omega.{arith}
use lib.Dec.{eqb}
use lib.ListN.{length, get_or, take, drop}
use lib.Pointwise.{pointwise}
use borrow.Author.Tests.{eq-eqb, ne_eqb, eqb-true}
use Rattle.ascii.specs.Bytes.{first}
use Rattle.ascii.specs.Digits.{digit_run, all_digits}
use Rattle.ascii.specs.Signs.{after_sign}
use Rattle.ascii.proofs.ListLaws.{tail_is}
use Rattle.ascii.proofs.TestLaws.{both, left_of}
use Rattle.numbers.specs.Grammar.{Spelling, outside, word, decimal, is_exponent_letter, is_word, is_exponent, digits, after_digits, parts, after_whole, unsigned}

-- ---- a point in front, as `strip_prefix` looks for it
pub point_found : (s : List ℕ) → pointwise eqb (take 1 s) (46 ∷ []) ≡ true → first s ≡ 46
point_found [] e = absurd (false≢true e)
point_found (b ∷ s) e = eqb-true b 46 (left_of (eqb b 46) true e)

pub point_not_found : (s : List ℕ) → pointwise eqb (take 1 s) (46 ∷ []) ≡ false → first s ≡ 46 → ⊥
point_not_found [] e f = omega arith
point_not_found (b ∷ s) e f = false≢true (sym e ∙ both (eqb b 46) true (eq-eqb b 46 f) refl)

-- ---- the exponent
pub exponent_no : (s : List ℕ) → is_exponent_letter (first s) ≡ false → is_exponent s ≡ false
unfolding is_exponent
exponent_no s e = simp e

pub exponent_yes : (s : List ℕ) → is_exponent_letter (first s) ≡ true → is_exponent s ≡ all_digits (after_sign (drop 1 s))
unfolding is_exponent
exponent_yes s e = simp e

-- the same, by the letter as the code reads it
pub exponent_read : (s : List ℕ) → (get_or s 0 0 ≡ 101) ⊎ (get_or s 0 0 ≡ 69) → all_digits (after_sign (take (length s - 1) (drop 1 s))) ≡ is_exponent s
unfolding is_exponent_letter
exponent_read s (inl e) = ap (λ (l : List ℕ). all_digits (after_sign l)) (tail_is 1 s) ∙ sym (exponent_yes s (rw e))
exponent_read s (inr e) = ap (λ (l : List ℕ). all_digits (after_sign l)) (tail_is 1 s) ∙ sym (exponent_yes s (rw e))

pub no_exponent : (s : List ℕ) → ((get_or s 0 0 ≡ 101) ⊎ (get_or s 0 0 ≡ 69) → ⊥) → false ≡ is_exponent s
unfolding is_exponent_letter
no_exponent s n = sym (exponent_no s (rw (ne_eqb (get_or s 0 0) 101 (λ e. n (inl e)), ne_eqb (get_or s 0 0) 69 (λ e. n (inr e)))))

pub nothing : (s : List ℕ) → length s < 1 → false ≡ is_exponent s
unfolding is_exponent_letter is_exponent
nothing [] h = refl
nothing (b ∷ s) h = absurd (omega arith)

-- ---- the digits, and what follows them

-- the two parts of a text that is split after n bytes, whatever is made of them
pub cut_digits : (f : List ℕ → List ℕ → Spelling) (s front back : List ℕ) (n : ℕ) → front ≡ take n s → back ≡ drop n s → n ≡ digit_run s → f front back ≡ f (digits s) (after_digits s)
cut_digits f s front back n F B e = rw (F, B, e)

module _ (negative : Bool) (whole places rest : List ℕ) where
  pub parts_none : length whole + length places ≡ 0 → parts negative whole places rest ≡ outside
  unfolding parts
  parts_none e = simp (eq-eqb (length whole + length places) 0 e)

  pub parts_decimal : (length whole + length places ≡ 0 → ⊥) → length rest ≡ 0 → parts negative whole places rest ≡ decimal negative whole places rest
  unfolding parts
  parts_decimal n e = simp (ne_eqb (length whole + length places) 0 n, eq-eqb (length rest) 0 e)

  pub parts_exponent : (length whole + length places ≡ 0 → ⊥) → (length rest ≡ 0 → ⊥) → parts negative whole places rest ≡ cond (is_exponent rest) (decimal negative whole places rest) outside
  unfolding parts
  parts_exponent n m = simp (ne_eqb (length whole + length places) 0 n, ne_eqb (length rest) 0 m)

pub whole_point : (negative : Bool) (whole rest : List ℕ) → first rest ≡ 46
    → after_whole negative whole rest ≡ parts negative whole (digits (drop 1 rest)) (after_digits (drop 1 rest))
unfolding after_whole
whole_point negative whole rest e = simp (eq-eqb (first rest) 46 e)

pub whole_alone : (negative : Bool) (whole rest : List ℕ) → (first rest ≡ 46 → ⊥) → after_whole negative whole rest ≡ parts negative whole [] rest
unfolding after_whole
whole_alone negative whole rest n = simp (ne_eqb (first rest) 46 n)

pub unsigned_word : (negative : Bool) (s : List ℕ) → is_word s ≡ true → unsigned negative s ≡ word
unfolding unsigned
unsigned_word negative s e = simp e

pub unsigned_digits : (negative : Bool) (s : List ℕ) → is_word s ≡ false → unsigned negative s ≡ after_whole negative (digits s) (after_digits s)
unfolding unsigned
unsigned_digits negative s e = simp e
