-- The pocket emptied, main has all of them, and its gap is moved behind the last.
use mathlib.Core.Path.{◌∙◌}
use Prim.Native.Nat.{◌^◌, ◌<◌}
use native.Mathlib.Omega.{arith}
use Rattle.gapped_slices.specs.Areas.{many}
use Rattle.building.specs.Kinds.{ResidueSlices, residues_of, residues_now, ResiduesIn}
use Rattle.building.proofs.ResidueStores.{residues_first}
use Rattle.building.proofs.ResiduesEmptied.{still_long}
use Rattle.building.proofs.StoreLaws.{main_alone}
use Rattle.building.proofs.residues.gather_residues.Goals as goal

pub returns : goal.returns
returns c =
    let emptied = c.empty_pocket-store in
    let empties = emptied.ensures.empties in
    let entry : ResidueSlices = residues_now c.args.residues.now in
    let mid : ResidueSlices = residues_now emptied.new.residues in
    let gathered : ResidueSlices = residues_of c.move_in.new.slice c.move_in-2.new.slice c.move_in-3.new.slice in
    let same = empties.same in
    record {
      same = emptied.ensures.same;
      gathered = record {
        same = record {
          keys = c.move_in.ensures.elsewhere.long ∙ same.keys;
          names = c.move_in-2.ensures.elsewhere.long ∙ same.names;
          marks = c.move_in-3.ensures.elsewhere.long ∙ same.marks;
        };
        front = λ room m long h.
            let held = empties.apart room m long h in
            let alone = main_alone (ResiduesIn mid) room emptied.result m held (empties.none room m long h) in
            let low : many emptied.result.main < 2 ^ 64 = omega (arith, held.lays.fits, held.lays.ordered, held.lays.inside, long.keys) in
            residues_first mid gathered room (still_long entry mid room same long) emptied.result.main c.entries_of-many.result (c.entries_of-many.ensures low)
            held.lays.start (omega (arith, held.lays.fits)) (omega (arith, held.lays.ordered, held.lays.inside)) m alone
            c.move_in.ensures c.move_in-2.ensures c.move_in-3.ensures;
      };
    }
