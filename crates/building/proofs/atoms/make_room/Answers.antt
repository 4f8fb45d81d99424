-- The pocket emptied, main has all of them; where it is full it is widened.
use mathlib.Core.Path.{◌≡◌}
use Prim.Native.Nat.{◌<◌}
use native.Mathlib.Omega.{arith}
use lib.ListN.{length}
use Rattle.gapped_slices.specs.Areas.{many}
use Rattle.model.specs.Fold.{Atom}
use Rattle.model.specs.Map.{Map}
use Rattle.building.specs.Kinds.{AtomSlices, atoms_now, AtomsIn, AtomsLong}
use Rattle.building.specs.Stores.{Apart, Widened}
use Rattle.building.proofs.AtomStores.{no_atoms, atoms_wider, atoms_still_long}
use Rattle.building.proofs.StoreLaws.{apart_widened}
use Rattle.building.proofs.atoms.make_room.Goals as goal

pub returns : goal.returns
returns c =
    let emptied = c.empty_pocket-store in
    let empties = emptied.ensures.empties in
    let entry : AtomSlices = atoms_now c.args.atoms.now in
    let after : AtomSlices = atoms_now emptied.new.atoms in
    let room = c.args.room in
    let held_then : (m : Map Atom) → AtomsLong entry room → Apart (AtomsIn entry) room c.args.store m → Apart (AtomsIn after) room emptied.result m
    = λ m long h. empties.apart room m long h in
    let none_there : (m : Map Atom) → AtomsLong entry room → Apart (AtomsIn entry) room c.args.store m → many emptied.result.pocket ≡ 0
    = λ m long h. empties.none room m long h in
    let wide : (m : Map Atom) → AtomsLong entry room → Apart (AtomsIn entry) room c.args.store m → length m < room → Widened room emptied.result c.widened.result
    = λ m long h low.
    let h' = held_then m long h in
    c.widened.ensures h'.lays (none_there m long h) (omega (arith, low, h'.main.many, h'.parted.many)) in
    record {
      same = emptied.ensures.same;
      makes = record {
        same = empties.same;
        apart = λ m long h low.
            let h' = held_then m long h in
            apart_widened (AtomsIn after) room emptied.result c.widened.result m h' (none_there m long h) (wide m long h low) (no_atoms after)
            (λ full to lo hi i. atoms_wider after room (atoms_still_long entry after room empties.same long) emptied.result.main h'.lays.start full to lo hi m i);
        roomy = λ m long h low. let w = wide m long h low in omega (arith, w.roomy, w.pocket);
      };
    }
