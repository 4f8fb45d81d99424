-- A residue of no polymer has no row; of any other it is the row that is put.
use mathlib.Core.Path.{sym, ◌∙◌}
use native.Mathlib.Numerals.{add-one}
use Rattle.writer.proofs.NothingEmitted.{nothing}
use Rattle.writer.proofs.polymers.put_polymer.Goals as goal

pub returns-then-not-is_polymer : goal.returns-then-not-is_polymer
returns-then-not-is_polymer c =
    let a = c.args in
    let e = sym c.is_polymer.ensures ∙ c.if-not-is_polymer.true in
    rw e (nothing a.out.now a.at)

pub returns : goal.returns
returns c =
    let e = sym c.is_polymer.ensures ∙ c.if-not-is_polymer.false in
    rw (e, ← add-one) c.put_polymer_row.ensures
