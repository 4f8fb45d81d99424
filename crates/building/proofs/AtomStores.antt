-- An atom put into an area of its slices is there in each field, and all that is in another area stays; so it is with one that is replaced where it stands.
use mathlib.Core.Path.{◌≡◌, refl, sym, ap, ◌∙◌, subst}
use mathlib.Core.Bool.{Bool, true, false, cond}
use mathlib.Core.List.{[]}
use mathlib.Core.Logic.{◌⊎◌}
use mathlib.Core.Option.{none}
use Prim.Native.Nat.{ℕ, ◌-◌, ◌^◌, ◌≤◌, ◌<◌}
use native.Mathlib.Omega.{arith}
use lib.Dec.{ltb}
use lib.Ieee.{Float, lt, nan}
use lib.ListN.{length, get_or, set}
use lib.Seq.{set-get_or}
use Rattle.std.specs.Prelude.{Result, Err}
use Rattle.field_slices.specs.Insertion.{ins}
use Rattle.field_slices.specs.Places.{pairs, below, Ascending, place_in}
use Rattle.field_slices.proofs.PairLaws.{map_pairs}
use Rattle.gapped_slices.specs.Areas.{many, Lies, one_more_at, stand_of, entries_in, MovedIn}
use Rattle.gapped_slices.specs.Spots.{Spotted}
use Rattle.gapped_slices.specs.declared.areas.Area.{Area}
use Rattle.gapped_slices.proofs.AreaLaws.{entries_elsewhere}
use Rattle.model.specs.Finished.{key_part, name_part}
use Rattle.model.specs.Fold.{Atom}
use Rattle.model.specs.Keys.{atom_place}
use Rattle.model.specs.Lent.{coordinates}
use Rattle.model.specs.Map.{Entry, Map, find}
use Rattle.building.specs.declared.atoms.AtomEntry.{AtomEntry}
use Rattle.building.specs.Kinds.{AtomSlices, IsAtom, AtomsIn, AtomsFirst, AtomsLong, AtomsSame, PutsAtom}
use Rattle.building.specs.Stores.{place_of, Kept}
use Rattle.building.proofs.AreaFields.{field_entered, none_in, wider_in, all_first, field_at, field_replaced, field_kept, field_elsewhere, long_replaced}
use Rattle.building.proofs.AtomPlaces.{split, splits, parts, place_split, ascending_split}
use Rattle.building.proofs.MapPlaces.{keys, keys_ascend, before_place}

-- ---- an atom put in
module _ (r after : AtomSlices) (a : Area) (at : ℕ) (e : AtomEntry) (puts : PutsAtom a at e r after) where
  pub atoms_put_same : AtomsSame r after
  atoms_put_same = record {
    keys = puts.keys.elsewhere.long;
    names = puts.names.elsewhere.long;
    elements = puts.elements.elsewhere.long;
    positions = puts.positions.elsewhere.long;
    occupancies = puts.occupancies.elsewhere.long;
  }

  pub atom_entered : (room : ℕ) → AtomsLong r room → e.name < 2 ^ 64 → a.from ≤ a.to → a.to ≤ room → many a < a.to - a.from → at ≤ many a
      → (v : Atom) → IsAtom e v → (m : Map Atom) → AtomsIn r a m → AtomsIn after (one_more_at a at) (ins at (record { key = atom_place e.key e.name; value = v }) m)
  atom_entered room long small ordered inside more low v own m h =
      let x : Entry Atom = record { key = atom_place e.key e.name; value = v } in
      let both = parts e.key e.name small in
      record {
        keys_held = field_entered (λ (e : Entry Atom). key_part e.key) a at x m r.keys after.keys ordered (omega (arith, long.keys)) more low puts.keys (sym both.0) h.keys_held;
        names_held = field_entered (λ (e : Entry Atom). name_part e.key) a at x m r.names after.names ordered (omega (arith, long.names)) more low puts.names (sym both.1) h.names_held;
        elements_held = field_entered (λ (e : Entry Atom). e.value.element) a at x m r.elements after.elements ordered (omega (arith, long.elements)) more low puts.elements own.element h.elements_held;
        positions_held = field_entered (λ (e : Entry Atom). coordinates e.value.position) a at x m r.positions after.positions ordered (omega (arith, long.positions)) more low puts.positions own.position h.positions_held;
        occupancies_held = field_entered (λ (e : Entry Atom). e.value.occupancy) a at x m r.occupancies after.occupancies ordered (omega (arith, long.occupancies)) more low puts.occupancies own.occupancy h.occupancies_held;
      }

  pub atom_elsewhere : (b : Area) → (b.to ≤ a.from) ⊎ (a.to ≤ b.from) → b.from ≤ b.to → (m : Map Atom) → AtomsIn r b m → AtomsIn after b m
  atom_elsewhere b side ordered m h = record {
    keys_held = entries_elsewhere a b r.keys after.keys puts.keys.elsewhere side ordered ∙ h.keys_held;
    names_held = entries_elsewhere a b r.names after.names puts.names.elsewhere side ordered ∙ h.names_held;
    elements_held = entries_elsewhere a b r.elements after.elements puts.elements.elsewhere side ordered ∙ h.elements_held;
    positions_held = entries_elsewhere a b r.positions after.positions puts.positions.elsewhere side ordered ∙ h.positions_held;
    occupancies_held = entries_elsewhere a b r.occupancies after.occupancies puts.occupancies.elsewhere side ordered ∙ h.occupancies_held;
  }

-- ---- an area with none, and main widened
pub no_atoms : (r : AtomSlices) (a : Area) → many a ≡ 0 → AtomsIn r a []
no_atoms r a e = record {
  keys_held = none_in a r.keys e;
  names_held = none_in a r.names e;
  elements_held = none_in a r.elements e;
  positions_held = none_in a r.positions e;
  occupancies_held = none_in a r.occupancies e;
}

pub atoms_wider : (r : AtomSlices) (room : ℕ) → AtomsLong r room → (a : Area) → a.from ≡ 0 → many a ≡ a.to → (to : ℕ) → a.to ≤ to → to ≤ room
    → (m : Map Atom) → AtomsIn r a m → AtomsIn r (record { from = 0; to = to; front = many a; behind = 0 }) m
atoms_wider r room long a start full to h k m i = record {
  keys_held = wider_in a r.keys start full (omega (arith, long.keys)) to h ∙ i.keys_held;
  names_held = wider_in a r.names start full (omega (arith, long.names)) to h ∙ i.names_held;
  elements_held = wider_in a r.elements start full (omega (arith, long.elements)) to h ∙ i.elements_held;
  positions_held = wider_in a r.positions start full (omega (arith, long.positions)) to h ∙ i.positions_held;
  occupancies_held = wider_in a r.occupancies start full (omega (arith, long.occupancies)) to h ∙ i.occupancies_held;
}

pub atoms_still_long : (r after : AtomSlices) (room : ℕ) → AtomsSame r after → AtomsLong r room → AtomsLong after room
atoms_still_long r after room same long = record {
  keys = omega (arith, same.keys, long.keys);
  names = omega (arith, same.names, long.names);
  elements = omega (arith, same.elements, long.elements);
  positions = omega (arith, same.positions, long.positions);
  occupancies = omega (arith, same.occupancies, long.occupancies);
}

-- ---- a look among the keys and names of an area, for an atom that is not there
pub atom_looked_new : (r : AtomSlices) (a : Area) (m : Map Atom) → Kept (AtomsIn r) a m → (key name : ℕ) → name < 2 ^ 64 → (v : Atom) → (spot : Result ℕ ℕ)
    → Spotted below (pairs (entries_in a r.keys) (entries_in a r.names)) (key, name) spot → find (atom_place key name) m ≡ none → Err (place_of spot) ≡ place_in ltb (atom_place key name) (keys m)
atom_looked_new r a m kept key name small v spot look absent =
    let place = atom_place key name in
    let held : pairs (entries_in a r.keys) (entries_in a r.names) ≡ splits m
    = (λ i. pairs (kept.fields.keys_held i) (kept.fields.names_held i)) ∙ map_pairs (λ (e : Entry Atom). key_part e.key) (λ (e : Entry Atom). name_part e.key) m in
    let both = parts key name small in
    let own : ◌≡◌ {A = ℕ × ℕ} (key, name) (split place) = λ i. (sym both.0 i, sym both.1 i) in
    before_place place v m spot absent
    (look.place (subst (Ascending below) (sym held) (ascending_split m (keys_ascend 0 m kept.ascending)))
    ∙ (λ i. place_in below (own i) (held i))
    ∙ place_split place m)

-- ---- the atom that stands at an index of the slices, replaced where its occupancy is strictly less
module _ (r after : AtomSlices) (at : ℕ) (n : AtomEntry) (ks : after.keys ≡ r.keys) (ns : after.names ≡ r.names)
    (es : after.elements ≡ cond (lt (get_or r.occupancies at nan) n.occupancy) (set r.elements at n.element) r.elements)
    (ps : after.positions ≡ cond (lt (get_or r.occupancies at nan) n.occupancy) (set r.positions at n.position) r.positions)
    (os : after.occupancies ≡ cond (lt (get_or r.occupancies at nan) n.occupancy) (set r.occupancies at n.occupancy) r.occupancies) where
  abbrev t : Bool
  t = lt (get_or r.occupancies at nan) n.occupancy

  pub atoms_same : AtomsSame r after
  atoms_same = record {
    keys = ap length ks;
    names = ap length ns;
    elements = long_replaced t r.elements after.elements at n.element es;
    positions = long_replaced t r.positions after.positions at n.position ps;
    occupancies = long_replaced t r.occupancies after.occupancies at n.occupancy os;
  }

  pub atom_stays : (b : Area) → (at < b.from) ⊎ (b.to ≤ at) → (m : Map Atom) → AtomsIn r b m → AtomsIn after b m
  atom_stays b side m h = record {
    keys_held = ap (entries_in b) ks ∙ h.keys_held;
    names_held = ap (entries_in b) ns ∙ h.names_held;
    elements_held = field_elsewhere t b r.elements after.elements at n.element es side ∙ h.elements_held;
    positions_held = field_elsewhere t b r.positions after.positions at n.position ps side ∙ h.positions_held;
    occupancies_held = field_elsewhere t b r.occupancies after.occupancies at n.occupancy os side ∙ h.occupancies_held;
  }

  module _ (room : ℕ) (long : AtomsLong r room) (a : Area) (lies : Lies a room) (m : Map Atom) (h : AtomsIn r a m) (i : ℕ) (low : i < many a) (stands : at ≡ stand_of a i)
      (d : Entry Atom) (k : ℕ) (own : (get_or m i d).key ≡ k) (v : Atom) (is : IsAtom n v) where
    abbrev old : Atom
    old = (get_or m i d).value

    abbrev x : Entry Atom
    x = record { key = k; value = v }

    lies_in : (size : ℕ) → room ≤ size → Lies a size
    lies_in size wide = record { ordered = lies.ordered; inside = omega (arith, lies.inside, wide); fits = lies.fits }

    -- the slice's test is that of the entries
    test : t ≡ lt old.occupancy v.occupancy
    test =
        (λ j. lt (get_or r.occupancies (stands j) nan) (is.occupancy j))
        ∙ ap (λ (y : Float). lt y v.occupancy) (field_at (λ (e : Entry Atom). e.value.occupancy) a i m d r.occupancies nan (lies_in (length r.occupancies) long.occupancies) low h.occupancies_held)

    -- one entry replaced or none, as one entry that may be what it was
    one_set : (b : Bool) → cond b (set m i x) m ≡ set m i (record { key = k; value = cond b v old })
    one_set true = refl
    one_set false = sym (ap (λ (y : Entry Atom). set m i y) (λ j. record { key = sym own j; value = old }) ∙ set-get_or m i d)

    fields : AtomsIn after a (cond t (set m i x) m)
    fields = record {
      keys_held = ap (entries_in a) ks ∙ h.keys_held ∙ sym (field_kept (λ (e : Entry Atom). key_part e.key) t m i x d (ap key_part (sym own)));
      names_held = ap (entries_in a) ns ∙ h.names_held ∙ sym (field_kept (λ (e : Entry Atom). name_part e.key) t m i x d (ap name_part (sym own)));
      elements_held = field_replaced (λ (e : Entry Atom). e.value.element) t a i x m r.elements after.elements at n.element (lies_in (length r.elements) long.elements) low stands is.element es h.elements_held;
      positions_held = field_replaced (λ (e : Entry Atom). coordinates e.value.position) t a i x m r.positions after.positions at n.position (lies_in (length r.positions) long.positions) low stands is.position ps h.positions_held;
      occupancies_held = field_replaced (λ (e : Entry Atom). e.value.occupancy) t a i x m r.occupancies after.occupancies at n.occupancy (lies_in (length r.occupancies) long.occupancies) low stands is.occupancy os h.occupancies_held;
    }

    pub atom_replaced : AtomsIn after a (set m i (record { key = k; value = cond (lt old.occupancy v.occupancy) v old }))
    atom_replaced = subst (AtomsIn after a) (one_set t ∙ ap (λ (b : Bool). set m i (record { key = k; value = cond b v old })) test) fields

-- ---- all of them at the front
pub atoms_first : (r after : AtomSlices) (room : ℕ) → AtomsLong r room → (a : Area) (n : ℕ) → n ≡ many a → a.from ≡ 0 → many a ≤ a.to → a.to ≤ room → (m : Map Atom) → Kept (AtomsIn r) a m
    → MovedIn a n r.keys after.keys → MovedIn a n r.names after.names → MovedIn a n r.elements after.elements → MovedIn a n r.positions after.positions
    → MovedIn a n r.occupancies after.occupancies → AtomsFirst after m
atoms_first r after room long a n e start low inside m kept ks ns es ps os = record {
  many = refl;
  ascending = kept.ascending;
  keys_held = all_first a n (length m) r.keys after.keys e kept.many start low (omega (arith, long.keys)) ks ∙ kept.fields.keys_held;
  names_held = all_first a n (length m) r.names after.names e kept.many start low (omega (arith, long.names)) ns ∙ kept.fields.names_held;
  elements_held = all_first a n (length m) r.elements after.elements e kept.many start low (omega (arith, long.elements)) es ∙ kept.fields.elements_held;
  positions_held = all_first a n (length m) r.positions after.positions e kept.many start low (omega (arith, long.positions)) ps ∙ kept.fields.positions_held;
  occupancies_held = all_first a n (length m) r.occupancies after.occupancies e kept.many start low (omega (arith, long.occupancies)) os ∙ kept.fields.occupancies_held;
}
