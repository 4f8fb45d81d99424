-- The rows are put atom after atom.
use native.Mathlib.Omega.{arith}
use Rattle.row_texts.proofs.EmittedLaws.{then}
use Rattle.writer.proofs.AtomRows.{rows_begin, rows_go, rows_end}
use Rattle.writer.proofs.NothingEmitted.{nothing}
use Rattle.writer.proofs.atoms.put_atom_rows.Goals as goal

pub loop-i-init : goal.loop-i-init
loop-i-init c = rows_begin _ _ c.begin_walk-walk.ensures (nothing _ _)

pub walk_to-walk-requires : goal.walk_to-walk-requires
walk_to-walk-requires c =
    let b = c.loop-i.invariant.bounded in
    (omega (arith, b.entered, c.loop-i-test.true, c.requires.1), omega (arith, b.counted, c.loop-i-test.true, c.requires.1))

pub loop-i-preserved : goal.loop-i-preserved
loop-i-preserved c =
    rows_go _ _ c.loop-i-test.true c.loop-i.invariant c.atom_at-atom.ensures c.walk_to-walk.ensures c.atom_row-row.ensures
    (λ t near told. then told (λ _. c.put_atom_row-place.ensures.0 near) c.well_formed.0.0)

pub returns : goal.returns
returns c = rows_end _ _ c.loop-i-test.false c.loop-i.invariant
