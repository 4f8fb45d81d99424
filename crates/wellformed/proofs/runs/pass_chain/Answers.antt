-- What is passed, and the run that is left from index i on, make the whole.
use mathlib.Core.Path.{sym, ◌∙◌}
use native.Mathlib.Omega.{arith}
use Rattle.wellformed.specs.Slices.{entries}
use Rattle.wellformed.proofs.FromLaws.{equals_on, equals_stops, equals_end}
use Rattle.model.specs.Keys.{chain_part}
use Rattle.wellformed.proofs.runs.pass_chain.Goals as goal

pub loop-i-init : goal.loop-i-init
loop-i-init c = omega arith

pub returns-else-chain_part-place : goal.returns-else-chain_part-place
returns-else-chain_part-place c =
    let a = c.args in
    let l = c.loop-i in
    omega (arith, l.invariant, equals_stops (λ k. chain_part (entries a.keys.now k)) a.n l.i a.place c.loop-i-test.true (λ e. c.if-chain_part-place.false (c.chain_part.ensures ∙ e)))

pub loop-i-preserved : goal.loop-i-preserved
loop-i-preserved c =
    let a = c.args in
    let l = c.loop-i in
    let e = sym c.chain_part.ensures ∙ c.if-chain_part-place.true in
    omega (arith, l.invariant, equals_on (λ k. chain_part (entries a.keys.now k)) a.n l.i a.place c.loop-i-test.true e)

pub returns-after-loop-i : goal.returns-after-loop-i
returns-after-loop-i c =
    let a = c.args in
    let l = c.loop-i in
    omega (arith, l.invariant, equals_end (λ k. chain_part (entries a.keys.now k)) a.n l.i a.place c.loop-i-test.false)
