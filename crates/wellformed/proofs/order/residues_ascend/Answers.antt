-- All of them ascend exactly where those from the one before index i on do.
use mathlib.Core.Path.{sym, ap, ◌∙◌}
use native.Mathlib.Omega.{arith}
use Rattle.names.specs.Places.{ascends}
use Rattle.wellformed.specs.Slices.{entries}
use Rattle.wellformed.proofs.FromLaws.{rest_all, ascends_on, ascends_fails, ascends_end}
use Rattle.wellformed.proofs.order.residues_ascend.Goals as goal

pub loop-i-init : goal.loop-i-init
loop-i-init c = (omega arith, ap ascends (rest_all (entries c.args.keys.now) c.args.n))

pub returns-then-keys-i : goal.returns-then-keys-i
returns-then-keys-i c =
    let a = c.args in
    let l = c.loop-i in
    sym (l.invariant.1 ∙ ascends_fails (entries a.keys.now) a.n l.i l.invariant.0 c.loop-i-test.true c.if-keys-i.true)

pub loop-i-preserved : goal.loop-i-preserved
loop-i-preserved c =
    let a = c.args in
    let l = c.loop-i in
    (omega arith, l.invariant.1 ∙ ascends_on (entries a.keys.now) a.n l.i l.invariant.0 c.loop-i-test.true c.if-keys-i.false)

pub returns : goal.returns
returns c =
    let a = c.args in
    let l = c.loop-i in
    sym (l.invariant.1 ∙ ascends_end (entries a.keys.now) a.n l.i c.loop-i-test.false)
