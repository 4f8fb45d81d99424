-- Slices that stay the same from one step to the next are the same after both.
use mathlib.Core.Path.{◌∙◌}
use Rattle.model.specs.LentNow.{SameAtoms}
use Rattle.model.specs.declared.lent.AtomsMut.{AtomsMut}
use Rattle.model.specs.declared.lent.ResiduesMut.{ResiduesMut}
use Rattle.building.specs.Kinds.{KeepsResidues}

pub same_atoms : (a b d : AtomsMut) → SameAtoms a b → SameAtoms b d → SameAtoms a d
same_atoms a b d p q = (q.0 ∙ p.0, q.1 ∙ p.1, q.2 ∙ p.2, q.3 ∙ p.3, q.4 ∙ p.4)

pub residues_kept : (a b d : ResiduesMut) → KeepsResidues a b → KeepsResidues b d → KeepsResidues a d
residues_kept a b d p q =
    ((q.0.0 ∙ p.0.0, q.0.1 ∙ p.0.1, q.0.2 ∙ p.0.2, q.0.3 ∙ p.0.3, q.0.4 ∙ p.0.4), q.1 ∙ p.1, q.2 ∙ p.2)
