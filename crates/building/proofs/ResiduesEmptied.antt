-- A residue of the pocket goes over into main: it is taken out of its slices by its index, main knows nothing of its key, and so it is put in where a look among main's keys leads.
use mathlib.Core.Path.{◌≡◌, ap, ◌∙◌, subst}
use mathlib.Core.Bool.{false}
use mathlib.Core.List.{List, map}
use Prim.Native.Nat.{ℕ, suc, ◌^◌, ◌≤◌, ◌<◌}
use native.Mathlib.Omega.{arith}
use lib.Dec.{ltb}
use lib.ListN.{length, get_or}
use Rattle.std.specs.Prelude.{Result, Err}
use Rattle.field_slices.specs.Insertion.{ins}
use Rattle.field_slices.specs.Places.{place_in}
use Rattle.gapped_slices.specs.Areas.{many, one_more_at, stand_of, entries_in}
use Rattle.gapped_slices.specs.Spots.{Spotted}
use Rattle.gapped_slices.specs.declared.areas.Area.{Area}
use Rattle.model.specs.Fold.{Residue}
use Rattle.model.specs.Lists.{count}
use Rattle.model.specs.Map.{Entry, Map}
use Rattle.building.specs.declared.stores.Store.{Store}
use Rattle.building.specs.declared.residues.ResidueEntry.{ResidueEntry}
use Rattle.building.specs.Kinds.{ResidueSlices, residue_entry_at, IsResidue, ResiduesIn, ResiduesLong, ResiduesSame, ResidueSpotted, PutsResidue}
use Rattle.building.specs.Stores.{place_of, Apart}
use Rattle.building.proofs.EmptyingLaws.{Emptying, taken, not_in_main, lies_so_far, goes_over}
use Rattle.building.proofs.MapPlaces.{keys, looked_new}
use Rattle.building.proofs.ResidueStores.{residue_entered, residue_elsewhere}
use Rattle.building.proofs.StoreLaws.{Enters}

-- what stands for one that is not there
abbrev none_such : Entry Residue
none_such = record { key = 0; value = record { name = 0; hetatm = false } }

pub still_long : (r after : ResidueSlices) (room : ℕ) → ResiduesSame r after → ResiduesLong r room → ResiduesLong after room
still_long r after room same long = record {
  keys = omega (arith, same.keys, long.keys);
  names = omega (arith, same.names, long.names);
  marks = omega (arith, same.marks, long.marks);
}

module _ (first r after : ResidueSlices) (room : ℕ) (small : room < 2 ^ 64) (long : ResiduesLong r room) (s : Store) (m : Map Residue) (h : Apart (ResiduesIn first) room s m)
    (k : ℕ) (low : k < many s.pocket) (a : Area) (g : Emptying (ResiduesIn r) s h.second m k a) where
  abbrev q : Map Residue
  q = h.second

  abbrev e : Entry Residue
  e = get_or q k none_such

  -- ---- what is taken out
  out : {A : Type 0} (field : Entry Residue → A) (l : List A) → room ≤ length l → entries_in s.pocket l ≡ map field q → get_or l (stand_of s.pocket k) (field none_such) ≡ field e
  out = taken (ResiduesIn first) (ResiduesIn r) (ResiduesIn after) room s m h k low none_such a g

  module _ (x : ResidueEntry) (read : x ≡ residue_entry_at r (stand_of s.pocket k)) where
    own_key : x.key ≡ e.key
    own_key = ap (λ (y : ResidueEntry). y.key) read ∙ out (λ (x : Entry Residue). x.key) r.keys long.keys g.pocket.keys_held

    own : IsResidue x e.value
    own = record {
      name = ap (λ (y : ResidueEntry). y.name) read ∙ out (λ (x : Entry Residue). x.value.name) r.names long.names g.pocket.names_held;
      mark = ap (λ (y : ResidueEntry). y.mark) read ∙ out (λ (x : Entry Residue). count x.value.hetatm) r.marks long.marks g.pocket.marks_held;
    }

    -- ---- and put in
    module _ (spot : Result ℕ ℕ) (look : ResidueSpotted r a x.key spot) (at : ℕ) (at_is : at ≡ place_of spot)
        (a' : Area) (grown : suc (many a) < 2 ^ 64 → at ≤ many a → a' ≡ one_more_at a at) (puts : PutsResidue a at x r after) where
      place : Err at ≡ place_in ltb e.key (keys g.so_far)
      place =
          let lies = lies_so_far (ResiduesIn first) (ResiduesIn r) (ResiduesIn after) room s m h k low none_such a g (length r.keys) long.keys in
          ap Err at_is
          ∙ looked_new e.key e.value g.so_far (entries_in a r.keys) spot g.main.fields.keys_held g.main.ascending (subst (λ (y : ℕ). Spotted ltb (entries_in a r.keys) y spot) own_key (look lies))
          (not_in_main (ResiduesIn first) (ResiduesIn r) (ResiduesIn after) room s m h k low none_such a g)

      enters : Enters (ResiduesIn r) (ResiduesIn after) room a at e g.so_far
      enters ordered inside more at_low i =
          subst (λ (y : ℕ). ResiduesIn after (one_more_at a at) (ins at (record { key = y; value = e.value }) g.so_far)) own_key
          (residue_entered r after a at x puts room long ordered inside more at_low e.value own g.so_far i)

      pub residue_over : Emptying (ResiduesIn after) s q m (suc k) a'
      residue_over =
          goes_over (ResiduesIn first) (ResiduesIn r) (ResiduesIn after) room s m h k low none_such a g small at place a' grown enters
          (λ side ordered. residue_elsewhere r after a at x puts s.pocket side ordered q)
