-- Each turn stores one residue's position and takes the residue with it to the next.
use mathlib.Core.Path.{refl, ◌∙◌}
use native.Mathlib.Omega.{arith}
use Prim.Native.Nat.{◌+◌}
use lib.ListN.{get_or, take, drop}
use Rattle.std.proofs.Common.{rules}
use Rattle.field_slices.specs.Places.{pairs}
use Rattle.model.specs.Neighbours.{met_with, position_between}
use Rattle.finishing.proofs.PositioningLaws.{positioning_starts, positioning_on, positioning_ends}
use Rattle.finishing.proofs.positions.position_residues.Goals as goal

pub loop-i-init : goal.loop-i-init
loop-i-init c = record {
  same = search rules;
  others = record { keys = refl; names = refl; codes = refl; categories = refl };
  positioning = positioning_starts _ _ _ _;
}

pub loop-i-preserved : goal.loop-i-preserved
loop-i-preserved c =
    let r = c.args.residues.now in
    let l = c.loop-i in
    let n = c.args.n in
    let o = l.invariant.others in
    let place = c.position_of-position.ensures
    ∙ (λ j. position_between l.met (get_or (o.keys j) l.i 0) (get_or (o.codes j) l.i 0) (drop (l.i + 1) (take n (pairs (o.keys j) (o.codes j))))) in
    let met = c.met_past-met.ensures ∙ (λ j. met_with l.met (get_or (o.keys j) l.i 0) (get_or (o.codes j) l.i 0)) in record {
      same = search rules;
      others = record { keys = o.keys; names = o.names; codes = o.codes; categories = o.categories };
      positioning = positioning_on r.keys.now r.codes.now r.positions.now n l.invariant.positioning c.loop-i-test.true refl refl place c.store.ensures met;
    }

pub returns-clause-positions : goal.returns-clause-positions
returns-clause-positions c = positioning_ends _ _ _ _ c.loop-i.invariant.positioning (omega (arith, c.loop-i-test.false))
