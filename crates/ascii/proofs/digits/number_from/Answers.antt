-- Capping as one goes is capping at the end: what the rest of s makes of v is, capped, what all of s makes of n. A capped number times ten still fits.
use mathlib.Core.Path.{sym, ap, ◌∙◌, subst}
use Prim.Native.Nat.{ℕ, ◌+◌, ◌*◌, ◌^◌, ◌≤◌}
use native.Mathlib.Omega.{arith}
use lib.ListN.{drop, get_or}
use Rattle.ascii.specs.Digits.{number_from, capped}
use Rattle.ascii.proofs.DigitLaws.{digit_below, from_step, from_end, capped_fits, capped_small, capped_from}
use Rattle.ascii.proofs.digits.number_from.Goals as goal

pub loop-b-init : goal.loop-b-init
loop-b-init c =
    let n = c.args.n in
    let s = c.args.s.now in (
      subst (λ (v : ℕ). v ≤ 10 ^ 18) (sym c.cap-v.ensures) (capped_fits n),
      sym (ap (λ (v : ℕ). capped (number_from v s)) c.cap-v.ensures ∙ capped_from n s),
    )

pub overflow_add-v : goal.overflow_add-v
overflow_add-v c =
    let s = c.args.s.now in
    omega (arith, digit_below (get_or s c.loop-b.b-index 0))

pub loop-b-preserved : goal.loop-b-preserved
loop-b-preserved c =
    let s = c.args.s.now in
    let v = c.loop-b.v in
    let i = c.loop-b.b-index in
    let next = v * 10 + c.digit_of.result in (
      subst (λ (w : ℕ). w ≤ 10 ^ 18) (sym c.cap-v-in-loop-b.ensures) (capped_fits next),
      c.loop-b.invariant.1
          ∙ ap capped (from_step v s i c.loop-b-test.true)
          ∙ ap (λ (d : ℕ). capped (number_from (v * 10 + d) (drop (i + 1) s))) (sym c.digit_of.ensures)
          ∙ sym (capped_from next (drop (i + 1) s))
          ∙ ap (λ (w : ℕ). capped (number_from w (drop (i + 1) s))) (sym c.cap-v-in-loop-b.ensures),
    )

pub returns : goal.returns
returns c =
    let v = c.loop-b.v in
    sym (c.loop-b.invariant.1 ∙ ap capped (from_end v c.args.s.now c.loop-b.b-index (omega arith)) ∙ capped_small v c.loop-b.invariant.0)
