-- All of them ascend exactly where those from the one before index i on do.
use mathlib.Core.Path.{sym, ap, ◌∙◌}
use native.Mathlib.Omega.{arith}
use borrow.Author.Tests.{ltb-true, ltb-false}
use Rattle.names.specs.Places.{ascends}
use Rattle.model.specs.Keys.{atom_place}
use Rattle.wellformed.specs.Slices.{entries}
use Rattle.wellformed.proofs.FromLaws.{rest_all, ascends_on, ascends_fails, ascends_end}
use Rattle.wellformed.proofs.order.atoms_ascend.Goals as goal

pub loop-i-init : goal.loop-i-init
loop-i-init c = let a = c.args in (omega arith, ap ascends (rest_all (λ k. atom_place (entries a.keys.now k) (entries a.names.now k)) a.n))

pub returns-then-not-is_before : goal.returns-then-not-is_before
returns-then-not-is_before c =
    let a = c.args in
    let l = c.loop-i in
    let e = ltb-false _ _ (sym c.is_before.ensures ∙ c.if-not-is_before.true) in
    sym (l.invariant.1 ∙ ascends_fails (λ k. atom_place (entries a.keys.now k) (entries a.names.now k)) a.n l.i l.invariant.0 c.loop-i-test.true e)

pub loop-i-preserved : goal.loop-i-preserved
loop-i-preserved c =
    let a = c.args in
    let l = c.loop-i in
    let e = ltb-true _ _ (sym c.is_before.ensures ∙ c.if-not-is_before.false) in
    (omega arith, l.invariant.1 ∙ ascends_on (λ k. atom_place (entries a.keys.now k) (entries a.names.now k)) a.n l.i l.invariant.0 c.loop-i-test.true e)

pub returns : goal.returns
returns c =
    let a = c.args in
    let l = c.loop-i in
    sym (l.invariant.1 ∙ ascends_end (λ k. atom_place (entries a.keys.now k) (entries a.names.now k)) a.n l.i c.loop-i-test.false)
