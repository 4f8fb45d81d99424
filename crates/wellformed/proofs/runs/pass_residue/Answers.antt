-- What is passed, and the run that is left from index i on, make the whole.
use native.Mathlib.Omega.{arith}
use Rattle.wellformed.specs.Slices.{entries}
use Rattle.wellformed.proofs.FromLaws.{equals_on, equals_stops, equals_end}
use Rattle.wellformed.proofs.runs.pass_residue.Goals as goal

pub loop-i-init : goal.loop-i-init
loop-i-init c = omega arith

pub returns-else-keys-i : goal.returns-else-keys-i
returns-else-keys-i c =
    let a = c.args in
    let l = c.loop-i in
    omega (arith, l.invariant, equals_stops (entries a.keys.now) a.n l.i a.key c.loop-i-test.true c.if-keys-i.false)

pub loop-i-preserved : goal.loop-i-preserved
loop-i-preserved c =
    let a = c.args in
    let l = c.loop-i in
    omega (arith, l.invariant, equals_on (entries a.keys.now) a.n l.i a.key c.loop-i-test.true c.if-keys-i.true)

pub returns-after-loop-i : goal.returns-after-loop-i
returns-after-loop-i c =
    let a = c.args in
    let l = c.loop-i in
    omega (arith, l.invariant, equals_end (entries a.keys.now) a.n l.i a.key c.loop-i-test.false)
