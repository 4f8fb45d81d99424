use mathlib.Core.Path.{◌≡◌}
use Prim.Native.Nat.{ℕ, ◌^◌, ◌<◌}
use Rattle.gapped_slices.specs.Areas.{many}
use Rattle.model.specs.Fold.{Atom}
use Rattle.model.specs.Map.{Map}
use Rattle.model.specs.LentNow.{SameAtoms}
use Rattle.building.specs.Kinds.{atoms_now, AtomsIn, AtomsLong, AtomsSame}
use Rattle.building.specs.Stores.{Apart}
use Rattle.building.proofs.EmptyingLaws.{Emptying}
use Rattle.building.proofs.atoms.empty_pocket.Given as goal

abbrev pub invariant-loop-k : goal.invariant-loop-k
invariant-loop-k l =
    let first = atoms_now l.fn.atoms in
    let now = atoms_now l.atoms in
    SameAtoms l.fn.atoms l.atoms
    × AtomsSame first now
    × ((room : ℕ) → room < 2 ^ 64 → AtomsLong first room → (m : Map Atom) (h : Apart (AtomsIn first) room l.store m) → l.many ≡ many l.store.pocket → Emptying (AtomsIn now) l.store h.second m l.k l.main)
