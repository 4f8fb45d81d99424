-- Where a residue is of a polymer, headers, rows and `#` are put one after the other; else the list is empty.
use mathlib.Core.Path.{sym, ap, ◌∙◌, subst}
use mathlib.Core.List.{List}
use Prim.Native.Nat.{ℕ}
use Rattle.model.specs.Lent.{list_from, lent_in, residue_in}
use Rattle.row_texts.specs.Emitted.{Emitted}
use Rattle.row_texts.proofs.EmittedLaws.{then}
use Rattle.writer.specs.Text.{lines_text, polymer_list}
use Rattle.writer.specs.PolymerNumbers.{polymers_of}
use Rattle.writer.proofs.NothingEmitted.{nothing}
use Rattle.writer.proofs.NumberWalk.{alone}
use Rattle.writer.proofs.PolymerList.{tested, rows_none, rows_some, list_some}
use Rattle.writer.proofs.polymers.put_polymer_list.Goals as goal

pub returns-then-not-has_polymers : goal.returns-then-not-has_polymers
returns-then-not-has_polymers c =
    let a = c.args in
    let at = residue_in (lent_in a.records) in
    let none = rows_none (alone at a.n) (list_from at 0 a.n) (sym (tested at a.n c.has_polymers.ensures) ∙ c.if-not-has_polymers.true) in
    λ up. subst (λ (t : List ℕ). Emitted a.out.now a.at t a.at a.out.now) (ap polymer_list (sym none)) (nothing a.out.now a.at)

pub returns : goal.returns
unfolding lines_text
returns c =
    let a = c.args in
    let at = residue_in (lent_in a.records) in
    let some = rows_some (alone at a.n) (list_from at 0 a.n) (sym (tested at a.n c.has_polymers.ensures) ∙ c.if-not-has_polymers.false) in
    λ up. subst (λ (t : List ℕ). Emitted a.out.now a.at t c.put_word.result c.put_word.new.out) (sym (list_some (polymers_of (list_from at 0 a.n)) some))
    (then c.put_polymer_headers-at.ensures (then (c.put_polymer_rows-at.ensures up) (λ _. c.put_word.ensures)) c.well_formed.0.0)
