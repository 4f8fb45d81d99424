-- The lines leave what closing then answers and finishes, in slices of the same lengths; the chains are cleared by its answer.
use mathlib.Core.Path.{refl, ap, ◌∙◌}
use mathlib.Core.List.{List}
use Prim.Native.Nat.{ℕ}
use lib.ListN.{length}
use Rattle.field_slices.specs.Clearing.{cleared}
use Rattle.model.specs.Lent.{Lent}
use Rattle.model.specs.LentNow.{lent_now}
use Rattle.readings.proofs.ReadWhole.{read_whole}
use Rattle.mmcif.specs.Acts.{acts_of}
use Rattle.reader.proofs.RowsAreSound.{acts_are_sound}
use Rattle.reader.proofs.reading.read_by_names.Goals as goal

pub returns-clause-reads : goal.returns-clause-reads
returns-clause-reads c =
    let l = c.read_lines-standing in
    let k = c.close-answer in
    let a = c.args in
    let names = l.new.chains in
    let entry : Lent = lent_now a.chains.now a.residues.now a.atoms.now in
    let after : List ℕ → Lent = λ chains. lent_now chains k.new.residues k.new.atoms in
    let whole = read_whole a.text.now (acts_of a.settings a.text.now) (acts_are_sound a.settings a.text.now) entry _ _ c.room_in-room.result c.halted_early-early.result l.result _
    (c.room_in-room.ensures a.chains.now refl) c.halted_early-early.ensures l.ensures.passes (ap length l.ensures.same_residues.1) (ap length l.ensures.same_residues.2) (k.ensures.closes names) in
    (whole.0, ap after (c.clear_from.ensures ∙ ap (λ (n : ℕ). cleared 0 n names) c.chains_left.ensures) ∙ whole.1)
