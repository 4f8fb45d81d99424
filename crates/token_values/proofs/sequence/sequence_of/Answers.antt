-- Each return is one case of `sequence_of`, by the tests that led there.
use mathlib.Core.Path.{◌≡◌, sym, ap, ◌∙◌}
use mathlib.Core.List.{List}
use mathlib.Core.Bool.{Bool}
use Prim.Native.Nat.{ℕ}
use Rattle.ascii.specs.Digits.{all_digits, number_from, capped}
use Rattle.ascii.specs.Signs.{after_sign}
use Rattle.token_values.specs.Sequence.{positive_of, negative_of}
use Rattle.token_values.proofs.SequenceLaws.{no_decimal, with_minus, without_minus}
use Rattle.token_values.proofs.sequence.sequence_of.Goals as goal

-- what the two calls say of the token: whether it is a decimal, and its number
tested : (token s : List ℕ) (r t : Bool) → r ≡ all_digits s → s ≡ after_sign token → r ≡ t → all_digits (after_sign token) ≡ t
tested token s r t a b e = sym (a ∙ ap all_digits b) ∙ e

number : (token s : List ℕ) (n : ℕ) → n ≡ capped (number_from 0 s) → s ≡ after_sign token → n ≡ capped (number_from 0 (after_sign token))
number token s n a b = a ∙ ap (λ (t : List ℕ). capped (number_from 0 t)) b

pub returns-then-not-all_digits : goal.returns-then-not-all_digits
returns-then-not-all_digits c = sym (no_decimal c.args.token.now (tested _ _ _ _ c.all_digits.ensures c.after_sign-digits.ensures c.if-not-all_digits.true))

pub returns-then-byte_at-eq45 : goal.returns-then-byte_at-eq45
returns-then-byte_at-eq45 c =
    let token = c.args.token.now in
    c.negative.ensures ∙ ap negative_of (number token _ _ c.number_from-n.ensures c.after_sign-digits.ensures)
    ∙ with_minus token (tested _ _ _ _ c.all_digits.ensures c.after_sign-digits.ensures c.if-not-all_digits.false) (sym c.byte_at.ensures ∙ c.if-byte_at-eq45.true)

pub returns-else-byte_at-eq45 : goal.returns-else-byte_at-eq45
returns-else-byte_at-eq45 c =
    let token = c.args.token.now in
    c.positive.ensures ∙ ap positive_of (number token _ _ c.number_from-n.ensures c.after_sign-digits.ensures)
    ∙ without_minus token (tested _ _ _ _ c.all_digits.ensures c.after_sign-digits.ensures c.if-not-all_digits.false) (λ e. c.if-byte_at-eq45.false (c.byte_at.ensures ∙ e))
