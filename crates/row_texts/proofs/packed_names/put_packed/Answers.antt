-- Each turn puts the byte in front of what is left; what is put so far, and then what is left, is the whole name.
use native.Mathlib.Omega.{arith}
use Rattle.names.proofs.PackingTurns.{one_less}
use Rattle.row_texts.proofs.PlainNames.{front_and_behind, putting_first, putting_turn, putting_last}
use Rattle.row_texts.proofs.packed_names.put_packed.Goals as goal

pub loop-left-init : goal.loop-left-init
loop-left-init c = let a = c.args in putting_first a.out.now a.at a.name

pub loop-left-smaller : goal.loop-left-smaller
loop-left-smaller c =
    omega (arith, one_less c.loop-left.left c.after_first-left.result c.loop-left-test.true c.after_first-left.ensures)

pub loop-left-preserved : goal.loop-left-preserved
loop-left-preserved c =
    let split = front_and_behind c.loop-left.left c.after_first-left.result c.loop-left-test.true c.first_byte.ensures c.after_first-left.ensures in
    putting_turn c.loop-left.invariant split c.put_byte-next.ensures (omega arith)

pub returns : goal.returns
returns c = putting_last c.loop-left.invariant c.loop-left-test.false
