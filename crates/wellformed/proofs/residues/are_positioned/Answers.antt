-- What is left of the residues passes, with the chain that was met last, exactly where all of them do.
use mathlib.Core.Path.{sym, ap, ◌∙◌}
use Rattle.wellformed.specs.Slices.{standing_in}
use Rattle.wellformed.specs.Walks.{stands_from}
use Rattle.wellformed.proofs.FromLaws.{rest_all}
use Rattle.wellformed.proofs.WalkTurns.{stands_on, stands_fails, stands_end}
use Rattle.wellformed.proofs.residues.are_positioned.Goals as goal

pub loop-i-init : goal.loop-i-init
loop-i-init c =
    let a = c.args in
    ap (stands_from 0) (rest_all (standing_in a.keys.now a.codes.now a.positions.now) a.n)

pub returns-then-positions-i : goal.returns-then-positions-i
returns-then-positions-i c =
    let a = c.args in
    let l = c.loop-i in
    sym (l.invariant ∙ stands_fails a.keys.now a.codes.now a.positions.now a.n l.met l.i c.loop-i-test.true c.requires.0 c.requires.1 (λ e. c.if-positions-i.true (e ∙ sym c.position_between-position.ensures)))

pub loop-i-preserved : goal.loop-i-preserved
loop-i-preserved c =
    let a = c.args in
    let l = c.loop-i in
    l.invariant ∙ stands_on a.keys.now a.codes.now a.positions.now a.n l.met l.i c.loop-i-test.true c.requires.0 c.requires.1 _ c.met_with-met.ensures (c.if-positions-i.false ∙ c.position_between-position.ensures)

pub returns : goal.returns
returns c =
    let a = c.args in
    let l = c.loop-i in
    sym (l.invariant ∙ stands_end a.keys.now a.codes.now a.positions.now a.n l.met l.i c.loop-i-test.false)
