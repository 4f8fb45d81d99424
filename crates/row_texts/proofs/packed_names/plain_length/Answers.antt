-- Each turn passes a byte that is written as it is; so while the bytes passed are plain, the name is plain exactly where the rest is.
use mathlib.Core.Path.{◌≡◌, refl, ◌∙◌}
use Prim.Native.Nat.{suc}
use native.Mathlib.Omega.{arith}
use lib.ListN.{length}
use Rattle.names.specs.Packing.{unpacked}
use Rattle.names.proofs.PackingTurns.{unpacked_short, one_less}
use Rattle.row_texts.proofs.PlainNames.{plain_turn, plain_last}
use Rattle.row_texts.proofs.packed_names.plain_length.Goals as goal

-- the rest loses a byte
less : (c : goal.After-after_first-rest) → length (unpacked c.loop-rest.rest) ≡ suc (length (unpacked c.after_first-rest.result))
less c = one_less c.loop-rest.rest c.after_first-rest.result c.loop-rest-test.true c.after_first-rest.ensures

pub loop-rest-init : goal.loop-rest-init
loop-rest-init c = (omega arith, refl)

pub overflow_add-n : goal.overflow_add-n
overflow_add-n c = omega (arith, less c, unpacked_short 8 c.args.name)

pub loop-rest-smaller : goal.loop-rest-smaller
loop-rest-smaller c = omega (arith, less c)

pub loop-rest-preserved : goal.loop-rest-preserved
loop-rest-preserved c =
    let loop = c.loop-rest in
    (omega (arith, less c), loop.invariant.1 ∙ plain_turn loop.rest c.after_first-rest.result c.loop-rest-test.true c.first_byte.ensures c.after_first-rest.ensures (omega arith))

pub returns : goal.returns
returns c = plain_last c.args.name c.loop-rest.n c.if-name-eq0.false c.loop-rest-test.false c.loop-rest.invariant.0 c.loop-rest.invariant.1
