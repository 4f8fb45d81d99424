use mathlib.Core.Path.{◌≡◌}
use mathlib.Core.Bool.{true}
use Rattle.model.specs.Lent.{lent_in, model_in}
use Rattle.model.specs.WellFormed.{well_formed_in}
use Rattle.writer.specs.Unwritable.{unwritable_in}
use Rattle.writer.proofs.ModelWalk.{Walked}
use Rattle.writer.proofs.Unwritten.{left_from}
use Rattle.writer.proofs.WalkBounds.{Bounded}
use Rattle.writer.proofs.unwritable.first_unwritable.Given as goal

abbrev pub invariant-loop-i : goal.invariant-loop-i
invariant-loop-i l =
    let slices = lent_in l.records in
    Bounded l.i l.walk × (well_formed_in slices l.fn.counts ≡ true → (unwritable_in (model_in slices l.fn.counts) ≡ left_from slices l.fn.counts l.i) × Walked slices l.fn.counts.residues l.fn.counts.atoms l.i l.walk)
