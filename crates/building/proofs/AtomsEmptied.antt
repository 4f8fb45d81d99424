-- An atom of the pocket goes over into main: it is taken out of its slices by its index, main knows nothing of its place, and so it is put in where a look among main's keys and names leads.
use mathlib.Core.Path.{◌≡◌, sym, ap, ◌∙◌, subst}
use mathlib.Core.List.{List, map}
use Prim.Native.Nat.{ℕ, suc, ◌^◌, ◌≤◌, ◌<◌}
use lib.Dec.{ltb}
use lib.ListN.{length, get_or}
use Rattle.std.specs.Prelude.{Result, Err}
use Rattle.field_slices.specs.Clearing.{zero_float}
use Rattle.field_slices.specs.Insertion.{ins}
use Rattle.field_slices.specs.Places.{place_in}
use Rattle.gapped_slices.specs.Areas.{many, one_more_at, stand_of, entries_in}
use Rattle.gapped_slices.specs.declared.areas.Area.{Area}
use Rattle.model.specs.Finished.{key_part, name_part}
use Rattle.model.specs.Fold.{Atom}
use Rattle.model.specs.Keys.{atom_place}
use Rattle.model.specs.Lent.{coordinates}
use Rattle.model.specs.Map.{Entry, Map, find}
use Rattle.model.proofs.KeysGiveBack.{whole_place}
use Rattle.building.specs.declared.stores.Store.{Store}
use Rattle.building.specs.declared.atoms.AtomEntry.{AtomEntry}
use Rattle.building.specs.Kinds.{AtomSlices, atom_entry_at, IsAtom, AtomsIn, AtomsLong, AtomSpotted, PutsAtom}
use Rattle.building.specs.Stores.{place_of, Apart}
use Rattle.building.proofs.AtomPlaces.{name_small}
use Rattle.building.proofs.AtomStores.{atom_entered, atom_elsewhere, atom_looked_new}
use Rattle.building.proofs.EmptyingLaws.{Emptying, taken, not_in_main, lies_so_far, goes_over}
use Rattle.building.proofs.MapPlaces.{keys}
use Rattle.building.proofs.StoreLaws.{Enters}

-- what stands for one that is not there
abbrev none_such : Entry Atom
none_such = record { key = 0; value = record { element = 0; position = record { x = zero_float; y = zero_float; z = zero_float }; occupancy = zero_float } }

module _ (first r after : AtomSlices) (room : ℕ) (small : room < 2 ^ 64) (long : AtomsLong r room) (s : Store) (m : Map Atom) (h : Apart (AtomsIn first) room s m)
    (k : ℕ) (low : k < many s.pocket) (a : Area) (g : Emptying (AtomsIn r) s h.second m k a) where
  abbrev q : Map Atom
  q = h.second

  abbrev e : Entry Atom
  e = get_or q k none_such

  -- ---- what is taken out
  out : {A : Type 0} (field : Entry Atom → A) (l : List A) → room ≤ length l → entries_in s.pocket l ≡ map field q → get_or l (stand_of s.pocket k) (field none_such) ≡ field e
  out = taken (AtomsIn first) (AtomsIn r) (AtomsIn after) room s m h k low none_such a g

  module _ (x : AtomEntry) (read : x ≡ atom_entry_at r (stand_of s.pocket k)) where
    own_key : x.key ≡ key_part e.key
    own_key = ap (λ (y : AtomEntry). y.key) read ∙ out (λ (x : Entry Atom). key_part x.key) r.keys long.keys g.pocket.keys_held

    own_name : x.name ≡ name_part e.key
    own_name = ap (λ (y : AtomEntry). y.name) read ∙ out (λ (x : Entry Atom). name_part x.key) r.names long.names g.pocket.names_held

    own : IsAtom x e.value
    own = record {
      element = ap (λ (y : AtomEntry). y.element) read ∙ out (λ (x : Entry Atom). x.value.element) r.elements long.elements g.pocket.elements_held;
      position = ap (λ (y : AtomEntry). y.position) read ∙ out (λ (x : Entry Atom). coordinates x.value.position) r.positions long.positions g.pocket.positions_held;
      occupancy = ap (λ (y : AtomEntry). y.occupancy) read ∙ out (λ (x : Entry Atom). x.value.occupancy) r.occupancies long.occupancies g.pocket.occupancies_held;
    }

    own_place : atom_place x.key x.name ≡ e.key
    own_place = (λ i. atom_place (own_key i) (own_name i)) ∙ whole_place e.key

    small_name : x.name < 2 ^ 64
    small_name = subst (λ (n : ℕ). n < 2 ^ 64) (sym own_name) (name_small e.key)

    -- ---- and put in
    module _ (spot : Result ℕ ℕ) (look : AtomSpotted r a x.key x.name spot)
        (at : ℕ) (at_is : at ≡ place_of spot) (a' : Area) (grown : suc (many a) < 2 ^ 64 → at ≤ many a → a' ≡ one_more_at a at) (puts : PutsAtom a at x r after) where
      place : Err at ≡ place_in ltb e.key (keys g.so_far)
      place =
          let lies = lies_so_far (AtomsIn first) (AtomsIn r) (AtomsIn after) room s m h k low none_such a g in
          let absent = not_in_main (AtomsIn first) (AtomsIn r) (AtomsIn after) room s m h k low none_such a g in
          ap Err at_is
          ∙ subst (λ (y : ℕ). Err (place_of spot) ≡ place_in ltb y (keys g.so_far)) own_place
          (atom_looked_new r a g.so_far g.main x.key x.name small_name e.value spot (look (lies (length r.keys) long.keys) (lies (length r.names) long.names))
          (ap (λ (y : ℕ). find y g.so_far) own_place ∙ absent))

      enters : Enters (AtomsIn r) (AtomsIn after) room a at e g.so_far
      enters ordered inside more at_low i =
          subst (λ (y : ℕ). AtomsIn after (one_more_at a at) (ins at (record { key = y; value = e.value }) g.so_far)) own_place
          (atom_entered r after a at x puts room long small_name ordered inside more at_low e.value own g.so_far i)

      pub atom_over : Emptying (AtomsIn after) s q m (suc k) a'
      atom_over =
          goes_over (AtomsIn first) (AtomsIn r) (AtomsIn after) room s m h k low none_such a g small at place a' grown enters
          (λ side ordered. atom_elsewhere r after a at x puts s.pocket side ordered q)
