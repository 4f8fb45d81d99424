-- The number made of the bytes passed and the bytes to come make the whole name's number; past the end a byte is 0, in the text as in the number.
use mathlib.Core.Path.{sym, ap, ◌∙◌}
use Prim.Native.Nat.{ℕ, ◌+◌, ◌*◌}
use native.Mathlib.Omega.{arith}
use lib.Dec.{lit<}
use borrow.Author.Rules.{rules}
use Rattle.names.proofs.PackingTurns.{onward, onward_first, onward_turn, onward_last, one_more, room}
use Rattle.names.proofs.packing.pack.Goals as goal

pub loop-i-init : goal.loop-i-init
loop-i-init c = (search rules, onward_first c.args.name.now)

pub overflow_mul-number : goal.overflow_mul-number
overflow_mul-number c =
    let more = room c.loop-i.number c.loop-i.i 0 c.loop-i.invariant.0 (omega arith) (lit< tt) in
    omega arith

pub overflow_add-number : goal.overflow_add-number
overflow_add-number c = record {
  fits = room c.loop-i.number c.loop-i.i c.byte_at.result c.loop-i.invariant.0 (omega arith) (omega arith);
}

pub loop-i-preserved : goal.loop-i-preserved
loop-i-preserved c =
    let s = c.args.name.now in
    let n = c.loop-i.number in
    let i = c.loop-i.i in (
      one_more n i c.byte_at.result c.loop-i.invariant.0 (omega arith),
      ap (λ (b : ℕ). onward (n * 256 + b) s (i + 1)) c.byte_at.ensures
          ∙ onward_turn n s i (omega arith)
          ∙ c.loop-i.invariant.1,
    )

pub returns : goal.returns
returns c =
    let s = c.args.name.now in
    sym (onward_last c.loop-i.number s c.loop-i.i (omega arith)) ∙ c.loop-i.invariant.1
