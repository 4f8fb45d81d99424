-- Storing the digits that are left, before those already stored, gives the whole run: each turn stores the last of those left.
use mathlib.Core.Path.{refl, sym, ap, ◌∙◌}
use Prim.Native.Nat.{ℕ, ◌+◌, ◌-◌, ◌%◌}
use native.Mathlib.Omega.{arith}
use lib.ListN.{length-set}
use Rattle.numbers.proofs.PrintingLaws.{digits_length, digits_none, digits_turn}
use Rattle.numbers.proofs.printing.put_digits.Goals as goal

pub loop-place-preserved : goal.loop-place-preserved
loop-place-preserved c =
    let at = c.args.at in
    let l = c.loop-place in (
      length-set l.out (at + (l.place - 1)) (48 + l.rest % 10) ∙ l.invariant.0,
      digits_turn l.out at l.place (l.place - 1) l.rest (48 + l.rest % 10) (omega arith) refl ∙ l.invariant.1,
    )

pub returns : goal.returns
returns c =
    let l = c.loop-place in
    record {
      bytes = sym (digits_none l.out c.args.at l.place l.rest (omega arith)) ∙ l.invariant.1;
      place = ap (λ (k : ℕ). c.args.at + k) (sym (digits_length c.args.count c.args.n));
    }
