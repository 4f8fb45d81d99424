-- What is left of the residues, with the atoms from where the walk stands on, passes exactly where all of them do.
use mathlib.Core.Path.{sym, ap, ◌∙◌}
use lib.ListN.{take}
use Rattle.model.specs.Lent.{lent_in}
use Rattle.wellformed.specs.Slices.{classed_in}
use Rattle.wellformed.specs.Walks.{classed_from}
use Rattle.wellformed.proofs.FromLaws.{rest_all}
use Rattle.wellformed.proofs.WalkTurns.{classed_on, classed_fails, classed_end}
use Rattle.wellformed.proofs.residues.are_classed.Goals as goal

pub loop-i-init : goal.loop-i-init
loop-i-init c =
    let a = c.args in
    ap (classed_from (take a.counts.atoms a.records.atom_keys.now) 0) (rest_all (classed_in (lent_in a.records)) a.counts.residues)

pub returns-then-not-is_classed : goal.returns-then-not-is_classed
returns-then-not-is_classed c =
    let a = c.args in
    let l = c.loop-i in
    sym (l.invariant ∙ classed_fails (take a.counts.atoms a.records.atom_keys.now) (classed_in (lent_in a.records)) a.counts.residues l.from l.i c.loop-i-test.true _ c.pass_lesser-from.ensures _ c.is_alone-lone.ensures (sym c.is_classed.ensures ∙ c.if-not-is_classed.true))

pub loop-i-preserved : goal.loop-i-preserved
loop-i-preserved c =
    let a = c.args in
    let l = c.loop-i in
    l.invariant ∙ classed_on (take a.counts.atoms a.records.atom_keys.now) (classed_in (lent_in a.records)) a.counts.residues l.from l.i c.loop-i-test.true _ c.pass_lesser-from.ensures _ c.is_alone-lone.ensures (sym c.is_classed.ensures ∙ c.if-not-is_classed.false)

pub returns : goal.returns
returns c =
    let a = c.args in
    let l = c.loop-i in
    sym (l.invariant ∙ classed_end (take a.counts.atoms a.records.atom_keys.now) (classed_in (lent_in a.records)) a.counts.residues l.from l.i c.loop-i-test.false)
