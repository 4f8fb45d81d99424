-- A minus sign is one byte stored, no sign none.
use mathlib.Core.Path.{refl, sym, subst}
use mathlib.Core.Bool.{Bool}
use Prim.Native.Nat.{◌+◌, ◌≤◌}
use native.Mathlib.Nat.{add-zero}
use native.Mathlib.Omega.{arith}
use lib.ListN.{length}
use Rattle.ascii.proofs.OutputLaws.{stored_byte}
use Rattle.numbers.specs.Printing.{sign}
use Rattle.numbers.proofs.printing.put_sign.Goals as goal

pub bounds-out-at : goal.bounds-out-at
unfolding sign
bounds-out-at c =
    let at = c.args.at in
    let room : at + 1 ≤ length c.args.out.now = subst (λ (s : Bool). at + length (sign s) ≤ length c.args.out.now) c.if-negative.true c.requires in
    omega arith

pub returns-then-negative : goal.returns-then-negative
unfolding sign
returns-then-negative c = rw c.if-negative.true (stored_byte c.args.out.now c.args.at 45)

pub returns : goal.returns
unfolding sign
returns c = rw c.if-negative.false (record { bytes = refl; place = sym (add-zero c.args.at) })
