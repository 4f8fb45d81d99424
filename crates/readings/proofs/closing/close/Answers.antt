-- A refusal is told and all is cleared; else the records are gathered, and the finished model is left. The chains are so where another clears them by the
-- answer. No slice becomes longer or shorter on either way.
use Prim.{Unit, tt}
use mathlib.Core.Path.{◌≡◌, refl, sym, ap, ◌∙◌}
use mathlib.Core.List.{List, []}
use Prim.Native.Nat.{ℕ}
use lib.ListN.{length}
use Rattle.std.specs.Prelude.{Result, Ok, Err}
use Rattle.refusals.specs.declared.reasons.Refusal.{Refusal}
use Rattle.field_slices.specs.Clearing.{cleared}
use Rattle.model.specs.Lent.{Lent, room_of}
use Rattle.model.specs.LentNow.{lent_now}
use Rattle.building.specs.Holds.{records_in}
use Rattle.finishing.proofs.ClearingLaws.{none_left, cleared_sizes}
use Rattle.readings.specs.Reading.{answer_of, left_by}
use Rattle.readings.proofs.EndOfReading.{refused_stays, finished_ends, finished_leaves}
use Rattle.readings.proofs.closing.close.Goals as goal

not_refused : (halt : Result (Unit {0}) Refusal) → ((why : Refusal) → halt ≡ Err why → ⊥) → halt ≡ Ok tt
not_refused (Ok u) other = refl
not_refused (Err why) other = absurd (other why refl)

pub returns-in-Err-clause-closes : goal.returns-in-Err-clause-closes
returns-in-Err-clause-closes c =
    let a = c.args in
    let n = c.clear_records.new in
    λ names making s p.
    let l : Lent = lent_now names a.residues.now a.atoms.now in
    let after : List ℕ → Lent = λ chains. lent_now chains n.residues n.atoms in
    let end = refused_stays (room_of l) (records_in l) a.standing _ making c.in-Err.is s in
    (sym (ap answer_of end), none_left l after c.no_records.ensures (c.clear_records.ensures.zeros names) ∙ sym (ap (left_by l) end))

pub returns-clause-closes : goal.returns-clause-closes
returns-clause-closes c =
    let a = c.args in
    let g = c.gather in
    let f = c.finish_model-finish in
    λ names making s p.
    let l : Lent = lent_now names a.residues.now a.atoms.now in
    let gathered : Lent = lent_now names g.new.residues g.new.atoms in
    let after : List ℕ → Lent = λ chains. lent_now chains f.new.residues f.new.atoms in
    let ends =
    finished_ends l gathered _ a.standing f.result (g.ensures.gathers names) (ap length g.ensures.same.1) (ap length g.ensures.same.2) (f.ensures.ends names) (not_refused a.standing.halt c.in_default.not-Err) making s p in
    (c.finished_by.ensures ∙ ends.0, ap (λ (k : ℕ). after (cleared 0 k names)) (finished_leaves f.result _ c.finished_by.ensures) ∙ ends.1)

pub returns-in-Err-clause-lengths : goal.returns-in-Err-clause-lengths
returns-in-Err-clause-lengths c =
    let a = c.args in
    let n = c.clear_records.new in
    cleared_sizes [] _ c.no_records.result a.residues.now n.residues a.atoms.now n.atoms (c.clear_records.ensures.zeros [])

pub returns-clause-lengths : goal.returns-clause-lengths
returns-clause-lengths c =
    let same = c.gather.ensures.same in
    let g = (c.gather.ensures.gathers []).lengths in
    let f = c.finish_model-finish.ensures.lengths in (
      f.0 ∙ g.residue_keys,
      f.1 ∙ g.residue_names,
      f.2 ∙ ap length same.1,
      f.3 ∙ g.residue_marks,
      f.4 ∙ ap length same.2,
      f.5 ∙ g.atom_keys,
      f.6 ∙ g.atom_names,
      f.7 ∙ g.elements,
      f.8 ∙ g.positions,
      f.9 ∙ g.occupancies,
    )
