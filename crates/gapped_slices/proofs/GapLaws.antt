-- Entries copied over the gap are the last before it instead of the first behind it, or the other way round, so that the entries, with the gap closed,
-- stay; and an entry stored at the gap's beginning is put in there.
use Prim.{Dec, yes, no}
use native.Mathlib.Decide.{dec_lt}
use mathlib.Core.Path.{◌≡◌, refl, sym, ap, ◌∙◌, subst}
use mathlib.Core.List.{List, [], ◌∷◌, ◌++◌, append_assoc}
use mathlib.Core.Bool.{Bool, true, false, cond}
use Prim.Native.Nat.{ℕ, suc, ◌+◌, ◌-◌, ◌≤◌, ◌<◌}
use native.Mathlib.Nat.{zero-add, suc-add}
use native.Mathlib.Omega.{arith}
use lib.Dec.{leb}
use lib.ListN.{length, take, drop, get_or, set, take-append-drop, length-append, length-drop, length-set, get_or-append}
use lib.Seq.{paste, length-paste, take-paste, drop-paste, take-append-le, take-take, take-add, drop-drop, drop_at, length-take-le, set-append_left, take-set-le, drop-set-lt, take-set-lt, take-suc-set, get_or-take, drop-length, drop-set-add, get_or-append-add, get_or-drop}
use borrow.Author.Tests.{leb-true, leb-false, le-leb, lt-leb, lt-ltb, le-ltb}
use Rattle.std.specs.List.{copy_within}
use Rattle.gapped_slices.specs.Gaps.{closed, standing, GapMoved, PutIn}
use Rattle.field_slices.specs.Insertion.{ins}
use Rattle.field_slices.specs.Places.{pairs}
use Rattle.field_slices.proofs.InsertionLaws.{ins_between}
use Rattle.field_slices.proofs.PairLaws.{length_pairs, pairs_at}

-- a sum is within a size where the one part is within what the other leaves
pub within_rest : (front behind size : ℕ) → behind ≤ size → leb front (size - behind) ≡ leb (front + behind) size
within_rest front behind size h = go (leb front (size - behind)) refl
  where
    go : (t : Bool) → leb front (size - behind) ≡ t → t ≡ leb (front + behind) size
    go true e = sym (le-leb (front + behind) size (omega (arith, leb-true front (size - behind) e)))
    go false e = sym (lt-leb (front + behind) size (omega (arith, leb-false front (size - behind) e)))

module _ {A : Type 0} where
  -- ---- entries copied over the gap
  pub parted : (front behind from : ℕ) (l : List A) → from + behind ≡ length l → closed front behind l ≡ take front l ++ drop from l
  unfolding closed
  parted front behind from l e = let q : length l - behind ≡ from = omega arith in ap (λ (n : ℕ). take front l ++ drop n l) q

  module _ (front behind gap to : ℕ) (l : List A) (size : gap + (front + behind) ≡ length l) where
    -- those behind it to the front
    pub moved_ahead : front ≤ to → to ≤ front + behind → {s : List A} → s ≡ copy_within l (front + gap) (to + gap) front → GapMoved front behind to l s
    moved_ahead h k e = subst (GapMoved front behind to l) (sym e) (record { long = long; entries = λ w t. entries })
      where
        over : ℕ
        over = to + gap - (front + gap)

        rest : List A
        rest = drop (front + gap) l

        after : List A
        after = paste l front rest over

        far : front + over ≡ to
        far = omega arith

        within : over ≤ length rest
        within = omega (arith, length-drop (front + gap) l)

        long : length after ≡ length l
        long = length-paste l front rest over (omega arith) within

        first : take to after ≡ take front l ++ take over rest
        first = ap (λ (n : ℕ). take n after) (sym far) ∙ take-paste l front rest over (omega arith) within

        last : drop (to + gap) after ≡ drop over rest
        last =
            let e : front + over + gap ≡ to + gap = omega (arith, far) in
            let f : front + gap + over ≡ front + over + gap = omega arith in
            ap (λ (n : ℕ). drop n after) (sym e) ∙ sym (drop-drop gap (front + over) after)
            ∙ ap (drop gap) (drop-paste l front rest over (omega arith) within)
            ∙ drop-drop gap (front + over) l ∙ ap (λ (n : ℕ). drop n l) (sym f) ∙ sym (drop-drop over (front + gap) l)

        entries : closed to (front + behind - to) after ≡ closed front behind l
        entries =
            parted to (front + behind - to) (to + gap) after (omega (arith, long))
            ∙ (λ i. first i ++ last i)
            ∙ append_assoc (take front l) (take over rest) (drop over rest)
            ∙ ap (λ (r : List A). take front l ++ r) (take-append-drop over rest)
            ∙ sym (parted front behind (front + gap) l (omega arith))

    -- those before it to behind it
    pub moved_back : to ≤ front → {s : List A} → s ≡ copy_within l to front (to + gap) → GapMoved front behind to l s
    moved_back h e = subst (GapMoved front behind to l) (sym e) (record { long = long; entries = λ w t. entries })
      where
        over : ℕ
        over = front - to

        carried : List A
        carried = take over (drop to l)

        rest : List A
        rest = drop (to + gap + over) l

        after : List A
        after = paste l (to + gap) (drop to l) over

        within : over ≤ length (drop to l)
        within = omega (arith, length-drop to l)

        long : length after ≡ length l
        long = length-paste l (to + gap) (drop to l) over (omega arith) within

        before : List A
        before = take (to + gap) l

        same : after ≡ before ++ (carried ++ rest)
        same = append_assoc before carried rest

        first : take to after ≡ take to l
        first =
            ap (take to) same
            ∙ take-append-le to before (carried ++ rest) (omega (arith, length-take-le (to + gap) l (omega arith)))
            ∙ take-take to (to + gap) l (omega arith)

        last : drop (to + gap) after ≡ carried ++ rest
        last = ap (drop (to + gap)) same ∙ drop_at before (carried ++ rest) (to + gap) (length-take-le (to + gap) l (omega arith))

        entries : closed to (front + behind - to) after ≡ closed front behind l
        entries =
            let e : to + over ≡ front = omega arith in
            parted to (front + behind - to) (to + gap) after (omega (arith, long))
            ∙ (λ i. first i ++ last i)
            ∙ sym (append_assoc (take to l) carried rest)
            ∙ ap (λ (r : List A). r ++ rest) (sym (take-add to over l) ∙ ap (λ (n : ℕ). take n l) e)
            ∙ sym (parted front behind (to + gap + over) l (omega arith))

  -- nothing is moved where the slice is too short, or has no such entries
  pub not_moved : {front behind to : ℕ} {l : List A} → (front + behind ≤ length l → to ≤ front + behind → ⊥) → GapMoved front behind to l l
  not_moved n = record { long = refl; entries = λ w t. absurd (n w t) }

  -- ---- the entries, with the gap closed
  set_append_add : (xs ys : List A) (n : ℕ) (a : A) → set (xs ++ ys) (length xs + n) a ≡ xs ++ set ys n a
  set_append_add [] ys n a = ap (λ (k : ℕ). set ys k a) (zero-add n)
  set_append_add (x ∷ xs) ys n a = ap (λ (k : ℕ). set (x ∷ (xs ++ ys)) k a) (suc-add (length xs) n) ∙ ap (λ (r : List A). x ∷ r) (set_append_add xs ys n a)

  module _ (front behind : ℕ) (l : List A) where
    pub length_closed : front + behind ≤ length l → length (closed front behind l) ≡ front + behind
    unfolding closed
    length_closed h =
        length-append (take front l) (drop (length l - behind) l)
        ∙ omega (arith, length-take-le front l (omega arith), length-drop (length l - behind) l)

    pub closed_put : (v : A) → front + behind < length l → closed (suc front) behind (set l front v) ≡ ins front v (closed front behind l)
    unfolding closed
    closed_put v h =
        let j = length l - behind in
        (λ p. take-suc-set l front v (omega arith) p ++ drop (length-set l front v p - behind) (set l front v))
        ∙ ap (λ (r : List A). (take front l ++ (v ∷ [])) ++ r) (drop-set-lt j l front v (omega arith))
        ∙ append_assoc (take front l) (v ∷ []) (drop j l)
        ∙ sym (ins_between front v (take front l) (drop j l) (length-take-le front l (omega arith)))

    pub closed_set : (i : ℕ) (v : A) → front + behind ≤ length l → i < front → closed front behind (set l i v) ≡ set (closed front behind l) i v
    unfolding closed
    closed_set i v h k =
        let j = length l - behind in
        (λ p. take-set-lt front l i v k p ++ drop (length-set l i v p - behind) (set l i v))
        ∙ ap (λ (r : List A). set (take front l) i v ++ r) (drop-set-lt j l i v (omega arith))
        ∙ sym (set-append_left (take front l) (drop j l) i v (omega (arith, length-take-le front l (omega arith))))

    pub closed_at : (i : ℕ) (d : A) → front + behind ≤ length l → i < front → get_or (closed front behind l) i d ≡ get_or l i d
    unfolding closed
    closed_at i d h k =
        get_or-append (take front l) (drop (length l - behind) l) d i (omega (arith, length-take-le front l (omega arith)))
        ∙ get_or-take front l i d k

    -- the same of those behind the gap
    module _ (gap : ℕ) (size : gap + (front + behind) ≡ length l) (i : ℕ) (from : front ≤ i) where
      behind_first : length (take front l) + (i - front) ≡ i
      behind_first = omega (arith, length-take-le front l (omega arith))

      behind_gap : i < front + behind → length l - behind + (i - front) ≡ i + gap
      behind_gap k = omega arith

      pub closed_set_behind : (v : A) → i < front + behind → closed front behind (set l (i + gap) v) ≡ set (closed front behind l) i v
      unfolding closed
      closed_set_behind v k =
          let j = length l - behind in
          (λ p. take-set-le front l (i + gap) v (omega arith) p ++ drop (length-set l (i + gap) v p - behind) (set l (i + gap) v))
          ∙ ap (λ (r : List A). take front l ++ r) (ap (λ (n : ℕ). drop j (set l n v)) (sym (behind_gap k)) ∙ drop-set-add j l (i - front) v)
          ∙ sym (set_append_add (take front l) (drop j l) (i - front) v)
          ∙ ap (λ (n : ℕ). set (take front l ++ drop j l) n v) behind_first

      pub closed_at_behind : (d : A) → i < front + behind → get_or (closed front behind l) i d ≡ get_or l (i + gap) d
      unfolding closed
      closed_at_behind d k =
          let j = length l - behind in
          ap (λ (n : ℕ). get_or (take front l ++ drop j l) n d) (sym behind_first)
          ∙ get_or-append-add (take front l) (drop j l) (i - front) d
          ∙ get_or-drop j l (i - front) d
          ∙ ap (λ (n : ℕ). get_or l n d) (behind_gap k)

  -- the i-th entry, wherever it stands
  pub closed_standing : (front behind gap : ℕ) (l : List A) → gap + (front + behind) ≡ length l → (i : ℕ) (d : A) → i < front + behind → get_or (closed front behind l) i d ≡ get_or l (standing front gap i) d
  closed_standing front behind gap l size i d h = go (dec_lt i front)
    where
      go : Dec (i < front) → get_or (closed front behind l) i d ≡ get_or l (standing front gap i) d
      go (yes k) = closed_at front behind l i d (omega arith) k ∙ ap (λ (t : Bool). get_or l (cond t i (i + gap)) d) (sym (lt-ltb i front k))
      go (no k) =
          let f : front ≤ i = omega (arith, k) in
          closed_at_behind front behind l gap size i f d h ∙ ap (λ (t : Bool). get_or l (cond t i (i + gap)) d) (sym (le-ltb i front f))

  pub closed_front : (n : ℕ) (l : List A) → closed n 0 l ≡ take n l
  unfolding closed
  closed_front n l =
      let e : length l - 0 ≡ length l = omega arith in
      ap (λ (r : List A). take n l ++ r) (ap (λ (k : ℕ). drop k l) e ∙ drop-length l) ∙ none (take n l)
    where
      none : (r : List A) → r ++ [] ≡ r
      none [] = refl
      none (x ∷ r) = ap (λ (q : List A). x ∷ q) (none r)

  -- ---- an entry put in
  pub put_new : {front behind at : ℕ} (v : A) {l moved after : List A} → GapMoved front behind at l moved → after ≡ set moved at v → PutIn front behind at v l after
  put_new {front} {behind} {at} v {l} {moved} {after} m e =
      let rest = front + behind - at in
      record {
        long = ap length e ∙ length-set moved at v ∙ m.long;
        entries = λ can.
            ap (closed (suc at) rest) e ∙ closed_put at rest moved v (omega (arith, m.long, can.room, can.there)) ∙ ap (ins at v) (m.entries (omega (arith, can.room)) can.there);
      }

-- ---- of two slices, side by side
module _ (front behind gap name_gap : ℕ) (keys names : List ℕ) (size : gap + (front + behind) ≡ length keys) (name_size : name_gap + (front + behind) ≡ length names) where
  length_keys : length (closed front behind keys) ≡ front + behind
  length_keys = length_closed front behind keys (omega arith)

  length_names : length (closed front behind names) ≡ front + behind
  length_names = length_closed front behind names (omega arith)

  pub length_pairs_closed : length (pairs (closed front behind keys) (closed front behind names)) ≡ front + behind
  length_pairs_closed = omega (arith, length_pairs (closed front behind keys) (closed front behind names), length_keys, length_names)

  pub pairs_standing : (i : ℕ) → i < front + behind → get_or (pairs (closed front behind keys) (closed front behind names)) i (0, 0) ≡ (get_or keys (standing front gap i) 0, get_or names (standing front name_gap i) 0)
  pairs_standing i h =
      pairs_at (closed front behind keys) (closed front behind names) i (omega (arith, h, length_keys)) (omega (arith, h, length_names))
      ∙ λ p. (closed_standing front behind gap keys size i 0 h p, closed_standing front behind name_gap names name_size i 0 h p)
