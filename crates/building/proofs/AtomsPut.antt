-- A new atom goes into main or into the pocket, at its place there, and both areas have the map with it.
use mathlib.Core.Path.{◌≡◌, ap, ◌∙◌}
use mathlib.Core.Option.{none}
use Prim.Native.Nat.{ℕ, suc, ◌-◌, ◌^◌, ◌≤◌, ◌<◌}
use lib.Dec.{ltb}
use lib.ListN.{length}
use Rattle.std.specs.Prelude.{Result, Err}
use Rattle.field_slices.specs.Places.{place_in}
use Rattle.gapped_slices.specs.Areas.{many}
use Rattle.model.specs.Fold.{Atom}
use Rattle.model.specs.Keys.{atom_place}
use Rattle.model.specs.Map.{Map, find, put}
use Rattle.building.specs.declared.stores.Store.{Store}
use Rattle.building.specs.declared.atoms.AtomEntry.{AtomEntry}
use Rattle.building.specs.Kinds.{AtomSlices, IsAtom, AtomsIn, AtomsLong, AtomSpotted, PutsAtom}
use Rattle.building.specs.Stores.{held, place_of, Apart, InMain, InPocket}
use Rattle.building.proofs.AtomStores.{atom_entered, atom_elsewhere, atom_looked_new}
use Rattle.building.proofs.MapPlaces.{keys}
use Rattle.building.proofs.PartedLaws.{not_in_either}
use Rattle.building.proofs.StoreLaws.{lies_main, lies_pocket, goes_main, goes_pocket}

abbrev own_place : AtomEntry → ℕ
own_place e = atom_place e.key e.name

module _ (r after : AtomSlices) (room : ℕ) (small : room < 2 ^ 64) (long : AtomsLong r room) (s to : Store) (e : AtomEntry) (name_small : e.name < 2 ^ 64) (v : Atom) (own : IsAtom e v)
    (m : Map Atom) (h : Apart (AtomsIn r) room s m) (absent : find (own_place e) m ≡ none) (roomy : held s < s.main.to) where
  in_neither : (find (own_place e) h.first ≡ none) × (find (own_place e) h.second ≡ none)
  in_neither = not_in_either (own_place e) h.first h.second m h.parted absent

  pub main_place : (spot : Result ℕ ℕ) → AtomSpotted r s.main e.key e.name spot → Err (place_of spot) ≡ place_in ltb (own_place e) (keys h.first)
  main_place spot look =
      let lies = lies_main room s h.lays in
      atom_looked_new r s.main h.first h.main e.key e.name name_small v spot (look (lies (length r.keys) long.keys) (lies (length r.names) long.names)) in_neither.0

  pocket_place : (spot : Result ℕ ℕ) → AtomSpotted r s.pocket e.key e.name spot → Err (place_of spot) ≡ place_in ltb (own_place e) (keys h.second)
  pocket_place spot look =
      let lies = lies_pocket room s h.lays in
      atom_looked_new r s.pocket h.second h.pocket e.key e.name name_small v spot (look (lies (length r.keys) long.keys) (lies (length r.names) long.names)) in_neither.1

  pub put_main : (at : ℕ) → Err at ≡ place_in ltb (own_place e) (keys h.first) → (suc (many s.main) < 2 ^ 64 → at ≤ many s.main → InMain s at to)
      → PutsAtom s.main at e r after → Apart (AtomsIn after) room to (put (own_place e) (λ o. v) m)
  put_main at place goes puts =
      goes_main (AtomsIn r) (AtomsIn after) room s to m (own_place e) at v h absent roomy small place goes
      (λ ordered inside more low. atom_entered r after s.main at e puts room long name_small ordered inside more low v own h.first)
      (λ side ordered. atom_elsewhere r after s.main at e puts s.pocket side ordered h.second)

  pub put_pocket : (spot : Result ℕ ℕ) → AtomSpotted r s.pocket e.key e.name spot → many s.pocket < s.pocket.to - s.pocket.from → (at : ℕ) → at ≡ place_of spot
      → (suc (many s.pocket) < 2 ^ 64 → at ≤ many s.pocket → InPocket s at to) → PutsAtom s.pocket at e r after → Apart (AtomsIn after) room to (put (own_place e) (λ o. v) m)
  put_pocket spot look more at at_is goes puts =
      goes_pocket (AtomsIn r) (AtomsIn after) room s to m (own_place e) at v h absent roomy small more (ap Err at_is ∙ pocket_place spot look) goes
      (λ ordered inside fits low. atom_entered r after s.pocket at e puts room long name_small ordered inside fits low v own h.second)
      (λ side ordered. atom_elsewhere r after s.pocket at e puts s.main side ordered h.first)
