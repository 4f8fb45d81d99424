-- The parts are put one after the other, and the polymer list knows of the residues alone.
use mathlib.Core.Path.{sym, subst}
use mathlib.Core.List.{List, ◌++◌}
use Prim.Native.Nat.{ℕ}
use Rattle.model.specs.Lent.{lent_in, model_in}
use Rattle.row_texts.specs.Emitted.{Emitted}
use Rattle.row_texts.proofs.EmittedLaws.{then}
use Rattle.writer.specs.Text.{lines_text, opening, polymer_list, atom_loop, atom_rows, text_of}
use Rattle.writer.proofs.RowsJoined.{polymers_by_residues}
use Rattle.writer.proofs.WellFormedParts.{ascending}
use Rattle.writer.proofs.writing.put_text.Goals as goal

pub returns : goal.returns
unfolding text_of model_in
returns c =
    let a = c.args in
    let l = lent_in a.records in
    let model = model_in l a.counts in
    let rows = polymers_by_residues model model.residues in
    λ well. subst (λ (t : List ℕ). Emitted a.out.now 0 (lines_text opening ++ (polymer_list t ++ atom_loop (atom_rows model 1 model.atoms))) c.put_atom_loop.result c.put_atom_loop.new.out) (sym rows)
    (then c.put_opening-at.ensures (then (c.put_polymer_list-at.ensures (ascending l a.counts well)) (λ _. c.put_atom_loop.ensures well)) c.well_formed.0.0)
