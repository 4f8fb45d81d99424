-- The test is the definition's; where it fails, each field is what the call before it answered.
use mathlib.Core.Path.{sym, ap, ◌∙◌}
use native.Mathlib.Numerals.{add-one}
use borrow.Author.Tests.{eq-eqb, ne_eqb}
use Rattle.model.specs.Lent.{lent_in, residue_in}
use Rattle.model.specs.TakenOut.{residue_out}
use Rattle.writer.specs.PolymerNumbers.{number_after, walked_to}
use Rattle.writer.proofs.polymer_numbers.walk_to.Goals as goal

pub returns-then-entry_at-key : goal.returns-then-entry_at-key
unfolding walked_to
returns-then-entry_at-key c = rw (eq-eqb _ _ (sym c.entry_at.ensures ∙ c.if-entry_at-key.true))

pub returns : goal.returns
unfolding walked_to
returns c =
    let a = c.args in
    let at = residue_in (lent_in a.records) in
    let residue = c.residue_at-residue.ensures ∙ ap (λ i. residue_out (at i)) (add-one a.walk.index) in
    let number = c.number_after.ensures ∙ ap (number_after a.walk.number a.walk.residue.chain) residue in
    rw (ne_eqb _ _ (λ e. c.if-entry_at-key.false (c.entry_at.ensures ∙ e))) (λ i. record { index = add-one a.walk.index i; number = number i; residue = residue i })
