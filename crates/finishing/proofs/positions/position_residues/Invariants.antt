use Rattle.model.specs.LentNow.{SameResidues}
use Rattle.finishing.specs.Positioning.{PositionsAlone}
use Rattle.finishing.proofs.PositioningLaws.{Positioning}
use Rattle.finishing.proofs.positions.position_residues.Given as goal

abbrev pub invariant-loop-i : goal.invariant-loop-i
invariant-loop-i l =
    let first = l.fn.residues in record {
      same : SameResidues first l.residues;
      others : PositionsAlone first l.residues;
      positioning : Positioning first.keys.now first.codes.now first.positions.now l.n l.residues.positions.now l.met l.i;
    }
