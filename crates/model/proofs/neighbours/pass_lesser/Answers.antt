-- What is left from index i on gives the answer, with those that are passed.
use mathlib.Core.Path.{refl}
use native.Mathlib.Omega.{arith}
use native.Mathlib.Numerals.{add-one}
use Rattle.model.proofs.WalkTurns.{passed_all, passed_none, passed_one}
use Rattle.model.proofs.neighbours.pass_lesser.Goals as goal

pub loop-i-init : goal.loop-i-init
loop-i-init c = refl

pub returns-then-key-keys : goal.returns-then-key-keys
returns-then-key-keys c =
    let a = c.args in
    omega (arith, c.loop-i.invariant, passed_none a.key a.keys.now a.n c.loop-i.i (omega arith) c.if-key-keys.true)

pub loop-i-preserved : goal.loop-i-preserved
loop-i-preserved c =
    let a = c.args in
    rw add-one (omega (arith, c.loop-i.invariant, passed_one a.key a.keys.now a.n c.loop-i.i (omega arith) (omega arith)))

pub returns : goal.returns
returns c =
    let a = c.args in
    grind (arith, c.loop-i.invariant, c.loop-i.auto.i-end, c.loop-i-test.false, passed_all a.key a.keys.now a.n c.loop-i.i, passed_all a.key a.keys.now a.n a.from)
