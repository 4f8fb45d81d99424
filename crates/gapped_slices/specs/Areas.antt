-- Areas: parts of slices that have a gap of their own each, for entries of any type, so that several can share a slice. What is
-- done in one leaves all that is elsewhere as it was.
use Rattle.std.specs.Prelude.{◌≡◌, List, cond, ℕ, suc, ◌+◌, ◌-◌, ◌≤◌, ◌<◌, ltb, length, take, drop}
use Rattle.gapped_slices.specs.declared.areas.Area.{Area}
use Rattle.gapped_slices.specs.Gaps.{closed}
use Rattle.field_slices.specs.Insertion.{ins}

-- so many entries
abbrev pub many : Area → ℕ
many a = a.front + a.behind

-- the area is in a slice of this size, and has room for its entries
pub record Lies (a : Area) (size : ℕ) : Type 0 where
  pub ordered : a.from ≤ a.to
  pub inside : a.to ≤ size
  pub fits : many a ≤ a.to - a.from

-- the same entries, n of them before the gap
abbrev pub gap_at : Area → ℕ → Area
gap_at a n = record { from = a.from; to = a.to; front = n; behind = many a - n }

-- one entry more, at this index, and the gap behind it
abbrev pub one_more_at : Area → ℕ → Area
one_more_at a at = record { from = a.from; to = a.to; front = suc at; behind = many a - at }

-- the gap's size
abbrev pub gap_of : Area → ℕ
gap_of a = a.to - a.from - many a

-- where the i-th entry stands in the slice
unfoldable pub stand_of : Area → ℕ → ℕ
stand_of a i = cond (ltb i a.front) (a.from + i) (a.from + (i + gap_of a))

module _ {A : Type 0} where
  -- what of l is in the area, and the entries in it, its gap closed
  abbrev pub part : Area → List A → List A
  part a l = take (a.to - a.from) (drop a.from l)

  unfoldable pub entries_in : Area → List A → List A
  entries_in a l = closed a.front a.behind (part a l)

  -- all that is before the area and behind it is as it was
  pub record Elsewhere (a : Area) (l after : List A) : Type 0 where
    pub long : length after ≡ length l
    pub before : take a.from after ≡ take a.from l
    pub behind : drop a.to after ≡ drop a.to l

  -- n entries come before the gap, and all entries are as they were
  pub record MovedIn (a : Area) (n : ℕ) (l after : List A) : Type 0 where
    pub elsewhere : Elsewhere a l after
    pub entries : Lies a (length l) → n ≤ many a → entries_in (gap_at a n) after ≡ entries_in a l

  -- v is put in at this index, where there is room for it
  pub record PutsIn (a : Area) (at : ℕ) (v : A) (l after : List A) : Type 0 where
    pub elsewhere : Elsewhere a l after
    pub entries : Lies a (length l) → many a < a.to - a.from → at ≤ many a → entries_in (one_more_at a at) after ≡ ins at v (entries_in a l)
