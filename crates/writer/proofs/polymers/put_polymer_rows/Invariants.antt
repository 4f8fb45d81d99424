use Rattle.model.specs.Lent.{lent_in, residue_in}
use Rattle.row_texts.specs.Emitted.{Emitted}
use Rattle.writer.proofs.PolymerRows.{PolymersTold}
use Rattle.writer.proofs.polymers.put_polymer_rows.Given as goal

abbrev pub invariant-loop-i : goal.invariant-loop-i
invariant-loop-i l =
    PolymersTold (residue_in (lent_in l.records)) l.n (λ t. Emitted l.initial.out l.at t l.place l.out) l.i l.number l.chain
