-- Rows under way: the runs taken stand in the records, and less of the text is left after each.
use Rattle.model.specs.Fold.{start}
use Rattle.model.specs.LentNow.{SameAtoms}
use Rattle.building.specs.Holds.{records_now}
use Rattle.building.specs.Kinds.{KeepsResidues}
use Rattle.acts.specs.Making.{made}
use Rattle.acts.specs.Standing.{ahead}
use Rattle.mmcif.specs.Acts.{acts_of}
use Rattle.mmcif.specs.Stages.{left}
use Rattle.mmcif.proofs.UnderWay.{UnderWay}
use Rattle.chains.specs.Names.{names_in}
use Rattle.structures.proofs.runs.read_runs.Given as goal

abbrev pub invariant-loop-stage : goal.invariant-loop-stage
invariant-loop-stage l =
    let first = records_now (names_in l.initial.chains) l.fn.residues l.fn.atoms in record {
      same_residues : KeepsResidues l.fn.residues l.residues;
      same_atoms : SameAtoms l.fn.atoms l.atoms;
      under_way :
          UnderWay l.text l.settings l.room first (ahead l.fn.halt (made l.room start (acts_of l.settings l.text))) l.stage
          (records_now (names_in l.chains) l.residues l.atoms);
    }

abbrev pub decreases-loop-stage : goal.decreases-loop-stage
decreases-loop-stage l = left l.text l.stage
