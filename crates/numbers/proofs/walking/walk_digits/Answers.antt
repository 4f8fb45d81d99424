-- Each turn reads one digit more; of at most 15 the number still fits. What is no digit ends the walk, and so does the end.
use mathlib.Core.Path.{◌≡◌, refl, sym, ◌∙◌, subst}
use Prim.Native.Nat.{ℕ}
use native.Mathlib.Omega.{arith}
use lib.ListN.{length}
use Rattle.ascii.proofs.DigitLaws.{run_end, run_stop}
use Rattle.numbers.proofs.PowerLaws.{ten_fits}
use Rattle.numbers.proofs.WalkLaws.{Walking, walk_on, walk_ends}
use Rattle.numbers.proofs.walking.walk_digits.Goals as goal

pub returns-then-not-is_ascii_digit : goal.returns-then-not-is_ascii_digit
returns-then-not-is_ascii_digit c =
    let a = c.args in
    let l = c.loop-i in
    let ends = walk_ends a.s.now a.from a.n l.number l.i l.invariant (run_stop a.s.now l.i c.loop-i-test.true (sym c.is_ascii_digit.ensures.value ∙ c.if-not-is_ascii_digit.true)) in
    record { number_value = ends.0; end_value = ends.1.0; number_bound = ends.1.1 }

pub overflow_mul-number : goal.overflow_mul-number
overflow_mul-number c =
    let l = c.loop-i in
    omega (arith, l.invariant.small, ten_fits l.i (omega arith))

pub overflow_add-number : goal.overflow_add-number
overflow_add-number c =
    let l = c.loop-i in
    omega (arith, l.invariant.small, ten_fits l.i (omega arith))

pub loop-i-preserved : goal.loop-i-preserved
loop-i-preserved c =
    let a = c.args in
    let l = c.loop-i in
    walk_on a.s.now a.from a.n l.number l.i l.invariant c.loop-i-test.true (sym c.is_ascii_digit.ensures.value ∙ c.if-not-is_ascii_digit.false)

pub returns : goal.returns
returns c =
    let a = c.args in
    let l = c.loop-i in
    let at_end : l.i ≡ length a.s.now = omega arith in
    let walked = subst (λ (i : ℕ). Walking a.s.now a.from a.n l.number i) at_end l.invariant in
    let ends = walk_ends a.s.now a.from a.n l.number (length a.s.now) walked (run_end a.s.now (length a.s.now) refl) in
    record { number_value = ends.0; end_value = ends.1.0; number_bound = ends.1.1 }
