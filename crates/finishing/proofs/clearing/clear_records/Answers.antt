-- One equation to a slice, from the function that clears it; the chains are cleared by another.
use mathlib.Core.Path.{refl}
use Rattle.model.specs.LentNow.{lent_now}
use Rattle.finishing.proofs.ClearingLaws.{slices_cleared}
use Rattle.finishing.proofs.clearing.clear_records.Goals as goal

pub returns-clause-zeros : goal.returns-clause-zeros
returns-clause-zeros c =
    let a = c.args in
    λ names.
    slices_cleared
    (lent_now names a.residues.now a.atoms.now)
    a.kept
    refl
    c.clear_from.ensures
    c.clear_from-2.ensures
    c.clear_from-3.ensures
    c.clear_from-4.ensures
    c.clear_from-5.ensures
    c.clear_from-6.ensures
    c.clear_from-7.ensures
    c.clear_from-8.ensures
    c.clear_from-9.ensures
    c.clear_from-10.ensures
