-- A part of a slice that comes back, as long as it was lent, has all of the slice before it and behind it as it was, so what was done
-- in it is done in the area and nowhere else. An entry stands in the part where it stands in the slice, less the part's start.
use Prim.{Dec, yes, no}
use mathlib.Core.Path.{◌≡◌, refl, sym, ap, ◌∙◌}
use mathlib.Core.List.{List, [], ◌∷◌, ◌++◌}
use mathlib.Core.Bool.{Bool, cond}
use mathlib.Core.Logic.{◌⊎◌, inl, inr}
use Prim.Native.Nat.{ℕ, zero, suc, ◌+◌, ◌-◌, ◌≤◌, ◌<◌}
use native.Mathlib.Nat.{zero-add, suc-add}
use native.Mathlib.Decide.{dec_lt}
use native.Mathlib.Omega.{arith}
use lib.ListN.{length, take, drop, get_or, set, length-drop}
use lib.Seq.{length-take-le, take-nil, take-take, drop-drop, take_at, drop_at, take-set-le, take-set-lt, drop-set-lt, drop-set-add, get_or-take, get_or-drop}
use borrow.Rule.Slice.PartMut.{put_mid, same_len_mid, take_put, drop_put}
use borrow.Author.Tests.{lt-ltb, le-ltb}
use Rattle.gapped_slices.specs.declared.areas.Area.{Area}
use Rattle.gapped_slices.specs.Areas.{many, Lies, gap_of, stand_of, part, entries_in, Elsewhere, MovedIn, PutsIn}
use Rattle.gapped_slices.specs.Gaps.{closed, GapMoved, PutIn}
use Rattle.gapped_slices.proofs.GapLaws.{length_closed, closed_at, closed_set, closed_at_behind, closed_set_behind}

-- ---- where an entry stands
module _ (a : Area) (i : ℕ) where
  pub stand_before : i < a.front → stand_of a i ≡ a.from + i
  unfolding stand_of
  stand_before h = ap (λ (t : Bool). cond t (a.from + i) (a.from + (i + gap_of a))) (lt-ltb i a.front h)

  pub stand_behind : a.front ≤ i → stand_of a i ≡ a.from + (i + gap_of a)
  unfolding stand_of
  stand_behind h = ap (λ (t : Bool). cond t (a.from + i) (a.from + (i + gap_of a))) (le-ltb i a.front h)

pub stand_inside : (a : Area) (size i : ℕ) → Lies a size → i < many a → (a.from ≤ stand_of a i) × (stand_of a i < a.to)
stand_inside a size i h k = go (dec_lt i a.front)
  where
    go : Dec (i < a.front) → (a.from ≤ stand_of a i) × (stand_of a i < a.to)
    go (yes p) = let e = stand_before a i p in (omega (arith, e), omega (arith, e, h.ordered, h.fits))
    go (no p) = let e = stand_behind a i (omega (arith, p)) in (omega (arith, e), omega (arith, e, h.ordered, h.fits))

module _ {A : Type 0} where
  -- ---- the part of a list
  length_part : (a : Area) (l : List A) → Lies a (length l) → length (part a l) ≡ a.to - a.from
  length_part a l h = length-take-le (a.to - a.from) (drop a.from l) (omega (arith, length-drop a.from l, h.inside))

  drop_take : (n k : ℕ) (l : List A) → drop n (take (n + k) l) ≡ take k (drop n l)
  drop_take zero k l = ap (λ (m : ℕ). take m l) (zero-add k)
  drop_take (suc n) k [] = ap (drop (suc n)) (take-nil (suc n + k)) ∙ sym (take-nil k)
  drop_take (suc n) k (x ∷ l) = ap (λ (m : ℕ). drop (suc n) (take m (x ∷ l))) (suc-add n k) ∙ drop_take n k l

  part_of_first : (b : Area) (n : ℕ) (l : List A) → b.from ≤ b.to → b.to ≤ n → part b (take n l) ≡ part b l
  part_of_first b n l h k =
      let e : b.from + (n - b.from) ≡ n = omega arith in
      ap (take (b.to - b.from)) (ap (λ (m : ℕ). drop b.from (take m l)) (sym e) ∙ drop_take b.from (n - b.from) l)
      ∙ take-take (b.to - b.from) (n - b.from) (drop b.from l) (omega arith)

  part_of_rest : (b : Area) (n : ℕ) (l : List A) → n ≤ b.from → part b l ≡ take (b.to - b.from) (drop (b.from - n) (drop n l))
  part_of_rest b n l h =
      let e : n + (b.from - n) ≡ b.from = omega arith in
      ap (take (b.to - b.from)) (ap (λ (m : ℕ). drop m l) (sym e) ∙ sym (drop-drop (b.from - n) n l))

  part_set : (a : Area) (l : List A) (j : ℕ) (v : A) → j < a.to - a.from → part a (set l (a.from + j) v) ≡ set (part a l) j v
  part_set a l j v h = ap (take (a.to - a.from)) (drop-set-add a.from l j v) ∙ take-set-lt (a.to - a.from) (drop a.from l) j v h

  part_at : (a : Area) (l : List A) (j : ℕ) (d : A) → j < a.to - a.from → get_or (part a l) j d ≡ get_or l (a.from + j) d
  part_at a l j d h = get_or-take (a.to - a.from) (drop a.from l) j d h ∙ get_or-drop a.from l j d

  -- ---- the entries of an area
  module _ (a : Area) (l : List A) (h : Lies a (length l)) where
    pub has_entries : many a ≤ length (part a l)
    has_entries = omega (arith, length_part a l h, h.fits)

    sized : gap_of a + many a ≡ length (part a l)
    sized = omega (arith, length_part a l h, h.fits)

    pub length_entries : length (entries_in a l) ≡ many a
    unfolding entries_in
    length_entries = length_closed a.front a.behind (part a l) has_entries

    -- the i-th entry stands at this index of the part
    record Seat (i : ℕ) : Type 0 where
      index : ℕ
      stands : stand_of a i ≡ a.from + index
      within : index < a.to - a.from
      held : (d : A) → get_or (closed a.front a.behind (part a l)) i d ≡ get_or (part a l) index d
      changed : (v : A) → closed a.front a.behind (set (part a l) index v) ≡ set (closed a.front a.behind (part a l)) i v

    module _ (i : ℕ) (k : i < many a) where
      seated : Dec (i < a.front) → Seat i
      seated (yes p) = record {
        index = i;
        stands = stand_before a i p;
        within = omega (arith, h.fits);
        held = λ d. closed_at a.front a.behind (part a l) i d has_entries p;
        changed = λ v. closed_set a.front a.behind (part a l) i v has_entries p;
      }
      seated (no p) =
          let q : a.front ≤ i = omega (arith, p) in
          record {
            index = i + gap_of a;
            stands = stand_behind a i q;
            within = omega (arith, h.fits);
            held = λ d. closed_at_behind a.front a.behind (part a l) (gap_of a) sized i q d k;
            changed = λ v. closed_set_behind a.front a.behind (part a l) (gap_of a) sized i q v k;
          }

      seat : Seat i
      seat = seated (dec_lt i a.front)

      pub entry_at : (d : A) → get_or l (stand_of a i) d ≡ get_or (entries_in a l) i d
      unfolding entries_in
      entry_at d = ap (λ (n : ℕ). get_or l n d) seat.stands ∙ sym (part_at a l seat.index d seat.within) ∙ sym (seat.held d)

      pub entry_set : (v : A) → entries_in a (set l (stand_of a i) v) ≡ set (entries_in a l) i v
      unfolding entries_in
      entry_set v =
          ap (closed a.front a.behind) (ap (λ (n : ℕ). part a (set l n v)) seat.stands ∙ part_set a l seat.index v seat.within)
          ∙ seat.changed v

  -- ---- what another area keeps
  pub entries_elsewhere : (a b : Area) (l after : List A) → Elsewhere a l after → (b.to ≤ a.from) ⊎ (a.to ≤ b.from) → b.from ≤ b.to → entries_in b after ≡ entries_in b l
  unfolding entries_in
  entries_elsewhere a b l after e (inl h) o =
      ap (closed b.front b.behind) (sym (part_of_first b a.from after o h) ∙ ap (part b) e.before ∙ part_of_first b a.from l o h)
  entries_elsewhere a b l after e (inr h) o =
      ap (closed b.front b.behind)
      (part_of_rest b a.to after h ∙ ap (λ (r : List A). take (b.to - b.from) (drop (b.from - a.to) r)) e.behind ∙ sym (part_of_rest b a.to l h))

  part_elsewhere : (b : Area) (l : List A) (j : ℕ) (v : A) → (j < b.from) ⊎ (b.to ≤ j) → Dec (j < b.from) → part b (set l j v) ≡ part b l
  part_elsewhere b l j v h (yes k) = ap (take (b.to - b.from)) (drop-set-lt b.from l j v k)
  part_elsewhere b l j v (inl h) (no k) = absurd (k h)
  part_elsewhere b l j v (inr h) (no k) =
      let e : b.from + (j - b.from) ≡ j = omega (arith, k) in
      ap (take (b.to - b.from)) (ap (λ (n : ℕ). drop b.from (set l n v)) (sym e) ∙ drop-set-add b.from l (j - b.from) v)
      ∙ take-set-le (b.to - b.from) (drop b.from l) (j - b.from) v (omega arith)

  pub set_elsewhere : (b : Area) (l : List A) (j : ℕ) (v : A) → (j < b.from) ⊎ (b.to ≤ j) → entries_in b (set l j v) ≡ entries_in b l
  unfolding entries_in
  set_elsewhere b l j v h = ap (closed b.front b.behind) (part_elsewhere b l j v h (dec_lt j b.from))

  -- ---- a part that comes back

  -- l with q in the area
  abbrev with : Area → List A → List A → List A
  with a l q = put_mid a.from (a.to - a.from) l q

  module _ (a : Area) (l q : List A) (h : Lies a (length l)) (e : length q ≡ length (part a l)) where
    elsewhere_back : Elsewhere a l (with a l q)
    elsewhere_back = record {
      long = same_len_mid a.from (a.to - a.from) l q e;
      before = take_put a.from (a.to - a.from) l q (omega (arith, h.ordered, h.inside));
      behind = drop_put a.from a.to l q h.ordered h.inside (e ∙ length_part a l h);
    }

    part_back : part a (with a l q) ≡ q
    part_back =
        let k = a.to - a.from in
        let rest = drop k (drop a.from l) in
        ap (take k) (drop_at (take a.from l) (q ++ rest) a.from (length-take-le a.from l (omega (arith, h.ordered, h.inside))))
        ∙ take_at q rest k (e ∙ length_part a l h)

  elsewhere_same : (a : Area) (l : List A) → Elsewhere a l l
  elsewhere_same a l = record { long = refl; before = refl; behind = refl }

  -- the gap is moved in the part, or the area is none
  module _ (a : Area) (n : ℕ) (l : List A) where
    pub moved_in : (q : List A) → Lies a (length l) → GapMoved a.front a.behind n (part a l) q → MovedIn a n l (with a l q)
    unfolding entries_in
    moved_in q h m = record {
      elsewhere = elsewhere_back a l q h m.long;
      entries = λ w t. ap (closed n (many a - n)) (part_back a l q h m.long) ∙ m.entries (has_entries a l h) t;
    }

    pub none_moved : (Lies a (length l) → ⊥) → MovedIn a n l l
    none_moved f = record { elsewhere = elsewhere_same a l; entries = λ w t. absurd (f w) }

  -- the same of an entry that is put in
  module _ (a : Area) (at : ℕ) (v : A) (l : List A) where
    pub put_in : (q : List A) → Lies a (length l) → PutIn a.front a.behind at v (part a l) q → PutsIn a at v l (with a l q)
    unfolding entries_in
    put_in q h m = record {
      elsewhere = elsewhere_back a l q h m.long;
      entries = λ w r t. ap (closed (suc at) (many a - at)) (part_back a l q h m.long) ∙ m.entries (record { room = omega (arith, r, length_part a l h); there = t });
    }

    pub none_put : (Lies a (length l) → ⊥) → PutsIn a at v l l
    none_put f = record { elsewhere = elsewhere_same a l; entries = λ w r t. absurd (f w) }
