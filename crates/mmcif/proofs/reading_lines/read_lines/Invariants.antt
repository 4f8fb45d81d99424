use Rattle.model.specs.LentNow.{SameAtoms}
use Rattle.building.specs.Holds.{records_now}
use Rattle.building.specs.Kinds.{KeepsResidues}
use Rattle.acts.specs.Making.{Making}
use Rattle.mmcif.specs.Stages.{left}
use Rattle.mmcif.proofs.UnderWay.{UnderWay}
use Rattle.mmcif.proofs.reading_lines.read_lines.Given as goal

abbrev pub invariant-loop-stage : goal.invariant-loop-stage
invariant-loop-stage l =
    let first = records_now l.initial.chains l.initial.residues l.initial.atoms in
    KeepsResidues l.initial.residues l.residues × SameAtoms l.initial.atoms l.atoms
    × ((target : Making) → UnderWay l.text l.settings l.room first target l.initial.stage first → UnderWay l.text l.settings l.room first target l.stage (records_now l.chains l.residues l.atoms))

abbrev pub decreases-loop-stage : goal.decreases-loop-stage
decreases-loop-stage l = left l.text l.stage
