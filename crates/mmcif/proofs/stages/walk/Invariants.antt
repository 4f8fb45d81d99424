use mathlib.Core.List.{List}
use Prim.Native.Nat.{ℕ}
use Rattle.model.specs.LentNow.{SameAtoms}
use Rattle.building.specs.Holds.{records_now}
use Rattle.building.specs.Kinds.{KeepsResidues}
use Rattle.mmcif.specs.Stages.{left}
use Rattle.mmcif.proofs.RunLaws.{OnTheRun}
use Rattle.mmcif.proofs.stages.walk.Given as goal

abbrev pub invariant-loop-settings : goal.invariant-loop-settings
invariant-loop-settings l =
    KeepsResidues l.initial.residues l.residues × SameAtoms l.initial.atoms l.atoms
    × ((chains : List ℕ) → OnTheRun l.text l.settings l.room l.place l.initial.now (records_now chains l.initial.residues l.initial.atoms) l.now (records_now chains l.residues l.atoms))

abbrev pub decreases-loop-settings : goal.decreases-loop-settings
decreases-loop-settings l = left l.text l.now
