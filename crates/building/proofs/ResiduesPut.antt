-- A new residue goes into main or into the pocket, at its place there, and both areas have the map with it.
use mathlib.Core.Path.{◌≡◌, ap, ◌∙◌}
use mathlib.Core.Option.{none}
use Prim.Native.Nat.{ℕ, suc, ◌-◌, ◌^◌, ◌≤◌, ◌<◌}
use lib.Dec.{ltb}
use lib.ListN.{length}
use Rattle.std.specs.Prelude.{Result, Err}
use Rattle.field_slices.specs.Places.{place_in}
use Rattle.gapped_slices.specs.Areas.{many, entries_in}
use Rattle.model.specs.Fold.{Residue}
use Rattle.model.specs.Map.{Map, find, put}
use Rattle.building.specs.declared.stores.Store.{Store}
use Rattle.building.specs.declared.residues.ResidueEntry.{ResidueEntry}
use Rattle.building.specs.Kinds.{ResidueSlices, IsResidue, ResiduesIn, ResiduesLong, ResidueSpotted, PutsResidue}
use Rattle.building.specs.Stores.{held, place_of, Lays, Apart, InMain, InPocket}
use Rattle.building.proofs.MapPlaces.{keys, looked_new}
use Rattle.building.proofs.PartedLaws.{not_in_either}
use Rattle.building.proofs.ResidueStores.{residue_entered, residue_elsewhere}
use Rattle.building.proofs.StoreLaws.{lies_main, lies_pocket, goes_main, goes_pocket}

module _ (r after : ResidueSlices) (room : ℕ) (small : room < 2 ^ 64) (long : ResiduesLong r room) (s to : Store) (e : ResidueEntry) (v : Residue) (own : IsResidue e v)
    (m : Map Residue) (h : Apart (ResiduesIn r) room s m) (absent : find e.key m ≡ none) (roomy : held s < s.main.to) where
  l : Lays room s
  l = h.lays

  in_neither : (find e.key h.first ≡ none) × (find e.key h.second ≡ none)
  in_neither = not_in_either e.key h.first h.second m h.parted absent

  pub main_place : (spot : Result ℕ ℕ) → ResidueSpotted r s.main e.key spot → Err (place_of spot) ≡ place_in ltb e.key (keys h.first)
  main_place spot look =
      looked_new e.key v h.first (entries_in s.main r.keys) spot h.main.fields.keys_held h.main.ascending (look (lies_main room s l (length r.keys) long.keys)) in_neither.0

  pocket_place : (spot : Result ℕ ℕ) → ResidueSpotted r s.pocket e.key spot → Err (place_of spot) ≡ place_in ltb e.key (keys h.second)
  pocket_place spot look =
      looked_new e.key v h.second (entries_in s.pocket r.keys) spot h.pocket.fields.keys_held h.pocket.ascending (look (lies_pocket room s l (length r.keys) long.keys)) in_neither.1

  pub put_main : (at : ℕ) → Err at ≡ place_in ltb e.key (keys h.first) → (suc (many s.main) < 2 ^ 64 → at ≤ many s.main → InMain s at to)
      → PutsResidue s.main at e r after → Apart (ResiduesIn after) room to (put e.key (λ o. v) m)
  put_main at place goes puts =
      goes_main (ResiduesIn r) (ResiduesIn after) room s to m e.key at v h absent roomy small place goes
      (λ ordered inside more low. residue_entered r after s.main at e puts room long ordered inside more low v own h.first)
      (λ side ordered. residue_elsewhere r after s.main at e puts s.pocket side ordered h.second)

  pub put_pocket : (spot : Result ℕ ℕ) → ResidueSpotted r s.pocket e.key spot → many s.pocket < s.pocket.to - s.pocket.from → (at : ℕ) → at ≡ place_of spot
      → (suc (many s.pocket) < 2 ^ 64 → at ≤ many s.pocket → InPocket s at to) → PutsResidue s.pocket at e r after → Apart (ResiduesIn after) room to (put e.key (λ o. v) m)
  put_pocket spot look more at at_is goes puts =
      goes_pocket (ResiduesIn r) (ResiduesIn after) room s to m e.key at v h absent roomy small more (ap Err at_is ∙ pocket_place spot look) goes
      (λ ordered inside fits low. residue_entered r after s.pocket at e puts room long ordered inside fits low v own h.second)
      (λ side ordered. residue_elsewhere r after s.pocket at e puts s.main side ordered h.first)
