-- An atom that was met before is replaced where it stands, in main or in the pocket: that is the put of the model.
use mathlib.Core.Path.{◌≡◌}
use mathlib.Core.Bool.{cond}
use mathlib.Core.Logic.{inl, inr}
use Prim.Native.Nat.{ℕ, ◌<◌}
use native.Mathlib.Omega.{arith}
use lib.Dec.{ltb}
use lib.Ieee.{lt, nan}
use lib.ListN.{get_or, set}
use Rattle.rows.specs.declared.rules.Site.{Site}
use Rattle.std.specs.Prelude.{Ok}
use Rattle.field_slices.specs.Places.{place_in}
use Rattle.gapped_slices.specs.Areas.{many}
use Rattle.gapped_slices.proofs.AreaLaws.{stand_inside}
use Rattle.model.specs.Fold.{Atom, atom_of, greater}
use Rattle.model.specs.Map.{Map, put}
use Rattle.building.specs.declared.stores.Store.{Store}
use Rattle.building.specs.declared.atoms.AtomEntry.{AtomEntry}
use Rattle.building.specs.Kinds.{AtomSlices, IsAtom, AtomsIn, AtomsLong}
use Rattle.building.specs.Stores.{Apart, keys_of, sought_by}
use Rattle.building.proofs.AtomStores.{atom_replaced, atom_stays}
use Rattle.building.proofs.MapPlaces.{past, there}
use Rattle.building.proofs.MetAgain.{Stands, met_place, replaced_main, replaced_pocket}
use Rattle.building.proofs.StoreLaws.{lies_main, lies_pocket}

module _ (r after : AtomSlices) (at : ℕ) (n : AtomEntry) (ks : after.keys ≡ r.keys) (ns : after.names ≡ r.names)
    (es : after.elements ≡ cond (lt (get_or r.occupancies at nan) n.occupancy) (set r.elements at n.element) r.elements)
    (ps : after.positions ≡ cond (lt (get_or r.occupancies at nan) n.occupancy) (set r.positions at n.position) r.positions)
    (os : after.occupancies ≡ cond (lt (get_or r.occupancies at nan) n.occupancy) (set r.occupancies at n.occupancy) r.occupancies)
    (room : ℕ) (long : AtomsLong r room) (site : Site) (own : IsAtom n (atom_of site)) (s : Store) (k : ℕ) (m : Map Atom) (h : Apart (AtomsIn r) room s m)
    (seen : Ok at ≡ sought_by s (place_in ltb k (keys_of h.first)) (place_in ltb k (keys_of h.second))) where
  pub atom_met : Apart (AtomsIn after) room s (put k (greater site) m)
  atom_met = go (met_place k (greater site) (AtomsIn r) room s m h at seen)
    where
      go : Stands k (greater site) (AtomsIn r) room s m h at (place_in ltb k (keys_of h.first)) (place_in ltb k (keys_of h.second)) → Apart (AtomsIn after) room s (put k (greater site) m)
      go (inl (i, place, stands)) =
          let t = there k (greater site) h.first i place in
          let lies = lies_main room s h.lays room (omega arith) in
          let low : i < many s.main = omega (arith, t.inside, h.main.many) in
          let side = stand_inside s.main room i lies low in
          replaced_main k (greater site) (AtomsIn r) room s m h (AtomsIn after) i place
          (atom_replaced r after at n ks ns es ps os room long s.main lies h.first h.main.fields i low stands (past k (greater site) h.first) k t.key (atom_of site) own)
          (atom_stays r after at n ks ns es ps os s.pocket (inl (omega (arith, side.1, stands, h.lays.middle))) h.second h.pocket.fields)
      go (inr (i, j, absent, place, stands)) =
          let t = there k (greater site) h.second j place in
          let lies = lies_pocket room s h.lays room (omega arith) in
          let low : j < many s.pocket = omega (arith, t.inside, h.pocket.many) in
          let side = stand_inside s.pocket room j lies low in
          replaced_pocket k (greater site) (AtomsIn r) room s m h (AtomsIn after) i j absent place
          (atom_replaced r after at n ks ns es ps os room long s.pocket lies h.second h.pocket.fields j low stands (past k (greater site) h.second) k t.key (atom_of site) own)
          (atom_stays r after at n ks ns es ps os s.main (inr (omega (arith, side.0, stands, h.lays.middle))) h.first h.main.fields)
