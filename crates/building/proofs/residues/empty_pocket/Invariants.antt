use mathlib.Core.Path.{◌≡◌}
use Prim.Native.Nat.{ℕ, ◌^◌, ◌<◌}
use Rattle.gapped_slices.specs.Areas.{many}
use Rattle.model.specs.Fold.{Residue}
use Rattle.model.specs.Map.{Map}
use Rattle.building.specs.Kinds.{residues_now, KeepsResidues, ResiduesIn, ResiduesLong, ResiduesSame}
use Rattle.building.specs.Stores.{Apart}
use Rattle.building.proofs.EmptyingLaws.{Emptying}
use Rattle.building.proofs.residues.empty_pocket.Given as goal

abbrev pub invariant-loop-k : goal.invariant-loop-k
invariant-loop-k l =
    let first = residues_now l.fn.residues in
    let now = residues_now l.residues in
    KeepsResidues l.fn.residues l.residues
    × ResiduesSame first now
    × ((room : ℕ) → room < 2 ^ 64 → ResiduesLong first room → (m : Map Residue) (h : Apart (ResiduesIn first) room l.store m) → l.many ≡ many l.store.pocket → Emptying (ResiduesIn now) l.store h.second m l.k l.main)
