-- The pocket emptied, main has all of them; where it is full it is widened.
use mathlib.Core.Path.{◌≡◌}
use Prim.Native.Nat.{◌<◌}
use native.Mathlib.Omega.{arith}
use lib.ListN.{length}
use Rattle.gapped_slices.specs.Areas.{many}
use Rattle.model.specs.Fold.{Residue}
use Rattle.model.specs.Map.{Map}
use Rattle.building.specs.Kinds.{ResidueSlices, residues_now, ResiduesIn, ResiduesLong}
use Rattle.building.specs.Stores.{Apart, Widened}
use Rattle.building.proofs.ResidueStores.{no_residues, residues_wider}
use Rattle.building.proofs.ResiduesEmptied.{still_long}
use Rattle.building.proofs.StoreLaws.{apart_widened}
use Rattle.building.proofs.residues.make_room.Goals as goal

pub returns : goal.returns
returns c =
    let emptied = c.empty_pocket-store in
    let empties = emptied.ensures.empties in
    let entry : ResidueSlices = residues_now c.args.residues.now in
    let after : ResidueSlices = residues_now emptied.new.residues in
    let room = c.args.room in
    let held_then : (m : Map Residue) → ResiduesLong entry room → Apart (ResiduesIn entry) room c.args.store m → Apart (ResiduesIn after) room emptied.result m
    = λ m long h. empties.apart room m long h in
    let none_there : (m : Map Residue) → ResiduesLong entry room → Apart (ResiduesIn entry) room c.args.store m → many emptied.result.pocket ≡ 0
    = λ m long h. empties.none room m long h in
    let wide : (m : Map Residue) → ResiduesLong entry room → Apart (ResiduesIn entry) room c.args.store m → length m < room → Widened room emptied.result c.widened.result
    = λ m long h low.
    let h' = held_then m long h in
    c.widened.ensures h'.lays (none_there m long h) (omega (arith, low, h'.main.many, h'.parted.many)) in
    record {
      same = emptied.ensures.same;
      makes = record {
        same = empties.same;
        apart = λ m long h low.
            let h' = held_then m long h in
            apart_widened (ResiduesIn after) room emptied.result c.widened.result m h' (none_there m long h) (wide m long h low) (no_residues after)
            (λ full to lo hi i. residues_wider after room (still_long entry after room empties.same long) emptied.result.main h'.lays.start full to lo hi m i);
        roomy = λ m long h low. let w = wide m long h low in omega (arith, w.roomy, w.pocket);
      };
    }
