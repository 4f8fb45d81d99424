use Rattle.std.proofs.Common.{◌≡◌, take}
use Rattle.model.specs.LentNow.{SameResidues}
use Rattle.finishing.proofs.ClassingLaws.{Classing}
use Rattle.finishing.proofs.classes.classify_residues.Given as goal

abbrev pub invariant-loop-i : goal.invariant-loop-i
invariant-loop-i l =
    let first = l.fn.residues in record {
      same : SameResidues first l.residues;
      keys : l.residues.keys.now ≡ first.keys.now;
      positions : l.residues.positions.now ≡ first.positions.now;
      classing :
          Classing first.keys.now first.names.now first.codes.now first.categories.now (take l.counts.atoms l.atoms.keys.now) l.counts.residues l.residues.names.now l.residues.codes.now
          l.residues.categories.now l.at l.i;
    }
