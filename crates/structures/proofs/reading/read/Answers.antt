-- The lines leave what closing then answers and finishes, in slices of the same lengths; the records are cleared by its answer, from their first one left on.
use mathlib.Core.Path.{ap, ◌∙◌}
use mathlib.Core.List.{List}
use Prim.Native.Nat.{ℕ}
use lib.ListN.{length, length-map}
use Rattle.field_slices.specs.Clearing.{cleared}
use Rattle.model.specs.LentNow.{lent_now}
use Rattle.readings.proofs.ReadWhole.{read_whole}
use Rattle.mmcif.specs.Acts.{acts_of}
use Rattle.reader.proofs.RowsAreSound.{acts_are_sound}
use Rattle.chains.specs.declared.chain.Chain.{Chain}
use Rattle.chains.specs.Names.{names_in}
use Rattle.structures.proofs.reading.read.Goals as goal

pub returns-clause-reads : goal.returns-clause-reads
returns-clause-reads c =
    let a = c.args in
    let r = c.read_runs-standing in
    let k = c.close-answer in
    let h = c.halted_early-early in
    let m = c.room_in-room in
    let names : List ℕ = names_in r.new.chains in
    let whole = read_whole a.text.now (acts_of a.settings a.text.now) (acts_are_sound a.settings a.text.now) (lent_now (names_in a.chains.now) a.residues.now a.atoms.now)
    (lent_now names r.new.residues r.new.atoms) _ m.result h.result r.result k.result
    (m.ensures (names_in a.chains.now) (length-map a.chains.now (λ (x : Chain). x.name))) h.ensures r.ensures.passes (ap length r.ensures.same_residues.1) (ap length r.ensures.same_residues.2) (k.ensures.closes names) in
    (whole.0, ap (λ (chains : List ℕ). lent_now chains k.new.residues k.new.atoms) (c.clear_from.ensures ∙ ap (λ (m : ℕ). cleared 0 m names) c.chains_left.ensures) ∙ whole.1)
