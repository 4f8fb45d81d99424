use Rattle.model.specs.Lent.{lent_in}
use Rattle.row_texts.specs.Emitted.{Emitted}
use Rattle.writer.proofs.AtomRows.{RowsTold}
use Rattle.writer.proofs.atoms.put_atom_rows.Given as goal

abbrev pub invariant-loop-i : goal.invariant-loop-i
invariant-loop-i l =
    let slices = lent_in l.records in
    RowsTold slices l.fn.counts (λ t. Emitted l.initial.out l.at t l.place l.out) l.i l.walk
