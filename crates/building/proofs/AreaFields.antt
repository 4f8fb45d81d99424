-- One field of the entries of an area, in its slice: with an entry put in, with one replaced where it stands, with none, and in a wider area once there is no gap.
use mathlib.Core.Path.{◌≡◌, refl, sym, ap, ◌∙◌}
use mathlib.Core.Bool.{Bool, true, false, cond}
use mathlib.Core.List.{List, [], ◌++◌, map, append-nil}
use mathlib.Core.Logic.{◌⊎◌}
use Prim.Native.Nat.{ℕ, ◌-◌, ◌≤◌, ◌<◌}
use native.Mathlib.Omega.{arith}
use lib.ListN.{length, take, drop, get_or, set, length-set, drop_of_length-le, take-append-drop, get_or-map}
use lib.Seq.{take-take, length-take-le, map-set_same}
use Rattle.field_slices.specs.Insertion.{ins}
use Rattle.field_slices.proofs.MapLaws.{map_ins, map_set}
use Rattle.field_slices.proofs.PlaceLaws.{get_d_any}
use Rattle.gapped_slices.specs.Areas.{many, Lies, gap_at, one_more_at, stand_of, part, entries_in, MovedIn, PutsIn}
use Rattle.gapped_slices.specs.Gaps.{closed}
use Rattle.gapped_slices.specs.declared.areas.Area.{Area}
use Rattle.gapped_slices.proofs.AreaLaws.{length_entries, entry_at, entry_set, set_elsewhere}

module _ {E A : Type 0} (field : E → A) where
  pub field_entered : (a : Area) (at : ℕ) (x : E) (m : List E) (l after : List A) {v : A} → a.from ≤ a.to → a.to ≤ length l → many a < a.to - a.from → at ≤ many a
      → PutsIn a at v l after → v ≡ field x → entries_in a l ≡ map field m → entries_in (one_more_at a at) after ≡ map field (ins at x m)
  field_entered a at x m l after {v} ordered inside more low p e h =
      p.entries (record { ordered = ordered; inside = inside; fits = omega (arith, more) }) more low
      ∙ (λ i. ins at (e i) (h i))
      ∙ sym (map_ins field at x m)

  -- an entry's field, where it stands
  pub field_at : (a : Area) (i : ℕ) (m : List E) (d : E) (l : List A) (z : A) → Lies a (length l) → i < many a → entries_in a l ≡ map field m → get_or l (stand_of a i) z ≡ field (get_or m i d)
  field_at a i m d l z lies low h =
      let inside : i < length (map field m) = omega (arith, low, length_entries a l lies, ap length h) in
      entry_at a l lies i low z ∙ ap (λ (r : List A). get_or r i z) h ∙ get_d_any (map field m) i z (field d) inside ∙ get_or-map field m i d

  -- an entry replaced where it stands, or none
  pub field_replaced : (t : Bool) (a : Area) (i : ℕ) (x : E) (m : List E) (l after : List A) (at : ℕ) (v : A) → Lies a (length l) → i < many a → at ≡ stand_of a i → v ≡ field x
      → after ≡ cond t (set l at v) l → entries_in a l ≡ map field m → entries_in a after ≡ map field (cond t (set m i x) m)
  field_replaced true a i x m l after at v lies low stands e q h =
      ap (entries_in a) (q ∙ (λ j. set l (stands j) (e j))) ∙ entry_set a l lies i low (field x) ∙ ap (λ (r : List A). set r i (field x)) h ∙ sym (map_set field m i x)
  field_replaced false a i x m l after at v lies low stands e q h = ap (entries_in a) q ∙ h

  -- a field that the new entry has from the old one
  pub field_kept : (t : Bool) (m : List E) (i : ℕ) (x d : E) → field x ≡ field (get_or m i d) → map field (cond t (set m i x) m) ≡ map field m
  field_kept true m i x d e = map-set_same field m i x d e
  field_kept false m i x d e = refl

module _ {A : Type 0} where
  -- ---- what is replaced elsewhere, and how long the slice is then
  module _ (t : Bool) where
    pub field_elsewhere : (b : Area) (l after : List A) (at : ℕ) (v : A) → after ≡ cond t (set l at v) l → (at < b.from) ⊎ (b.to ≤ at) → entries_in b after ≡ entries_in b l
    field_elsewhere b l after at v q side = ap (entries_in b) q ∙ go t
      where
        go : (t : Bool) → entries_in b (cond t (set l at v) l) ≡ entries_in b l
        go true = set_elsewhere b l at v side
        go false = refl

    pub long_replaced : (l after : List A) (at : ℕ) (v : A) → after ≡ cond t (set l at v) l → length after ≡ length l
    long_replaced l after at v q = ap length q ∙ go t
      where
        go : (t : Bool) → length (cond t (set l at v) l) ≡ length l
        go true = length-set l at v
        go false = refl

  -- ---- no entry at all
  pub none_in : (a : Area) (l : List A) → many a ≡ 0 → entries_in a l ≡ []
  unfolding entries_in closed
  none_in a l e =
      let f : a.front ≡ 0 = omega (arith, e) in
      let b : a.behind ≡ 0 = omega (arith, e) in
      let past : length (part a l) ≤ length (part a l) - 0 = omega arith in
      (λ i. take (f i) (part a l) ++ drop (length (part a l) - b i) (part a l)) ∙ drop_of_length-le (part a l) past

  -- an area from the front that has no gap, and one that goes on behind it
  module _ (a : Area) (l : List A) (start : a.from ≡ 0) (full : many a ≡ a.to) (inside : a.to ≤ length l) where
    first_part : part a l ≡ take a.to l
    first_part = let e : a.to - a.from ≡ a.to = omega (arith, start) in λ i. take (e i) (drop (start i) l)

    all_in : entries_in a l ≡ take a.to l
    unfolding entries_in closed
    all_in =
        let long : length (part a l) ≡ a.to = ap length first_part ∙ length-take-le a.to l inside in
        let e : length (part a l) - a.behind ≡ a.front = omega (arith, long, full) in
        ap (λ (n : ℕ). take a.front (part a l) ++ drop n (part a l)) e ∙ take-append-drop a.front (part a l) ∙ first_part

    pub wider_in : (to : ℕ) → a.to ≤ to → entries_in (record { from = 0; to = to; front = many a; behind = 0 }) l ≡ entries_in a l
    unfolding entries_in closed
    wider_in to h =
        let w = take (to - 0) l in
        let past : length w ≤ length w - 0 = omega arith in
        ap (λ (r : List A). take (many a) w ++ r) (drop_of_length-le w past)
        ∙ append-nil (take (many a) w)
        ∙ take-take (many a) (to - 0) l (omega (arith, full))
        ∙ ap (λ (n : ℕ). take n l) full
        ∙ sym all_in

  -- an area from the front with nothing behind its gap
  pub front_in : (a : Area) (l : List A) → a.from ≡ 0 → a.behind ≡ 0 → a.front ≤ a.to → entries_in a l ≡ take a.front l
  unfolding entries_in closed
  front_in a l start none low =
      let w = part a l in
      let past : length w ≤ length w - a.behind = omega (arith, none) in
      let e : a.to - a.from ≡ a.to = omega (arith, start) in
      ap (λ (r : List A). take a.front w ++ r) (drop_of_length-le w past)
      ∙ append-nil (take a.front w)
      ∙ (λ i. take a.front (take (e i) (drop (start i) l)))
      ∙ take-take a.front a.to l low

  -- the gap moved behind all entries, of which there are k
  pub all_first : (a : Area) (n k : ℕ) (l after : List A) → n ≡ many a → many a ≡ k → a.from ≡ 0 → many a ≤ a.to → a.to ≤ length l → MovedIn a n l after → take k after ≡ entries_in a l
  all_first a n k l after e f start low inside moved =
      let none : many a - many a ≡ 0 = omega arith in
      ap (λ (x : ℕ). take x after) (sym f)
      ∙ sym (front_in (gap_at a (many a)) after start none low)
      ∙ ap (λ (x : ℕ). entries_in (gap_at a x) after) (sym e)
      ∙ moved.entries (record { ordered = omega (arith, start); inside = inside; fits = omega (arith, start, low) }) (omega (arith, e))
