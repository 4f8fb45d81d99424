-- A slice with a gap, for entries of any type: its first entries and its last ones count, and what is between them does not.
use Rattle.std.specs.Prelude.{◌≡◌, List, ◌++◌, ℕ, suc, ◌+◌, ◌-◌, ◌≤◌, ◌<◌, cond, ltb, length, take, drop}
use Rattle.field_slices.specs.Insertion.{ins}

-- where the i-th entry stands, with so many before the gap
abbrev pub standing : ℕ → ℕ → ℕ → ℕ
standing front gap i = cond (ltb i front) i (i + gap)

module _ {A : Type 0} where
  -- the entries of l, its gap closed
  unfoldable pub closed : ℕ → ℕ → List A → List A
  closed front behind l = take front l ++ drop (length l - behind) l

  -- `to` entries come before the gap, and all entries are as they were
  pub record GapMoved (front behind to : ℕ) (l after : List A) : Type 0 where
    pub long : length after ≡ length l
    pub entries : front + behind ≤ length l → to ≤ front + behind → closed to (front + behind - to) after ≡ closed front behind l

  -- the slice has the entries, and room for one more, which goes before the one at index `at`
  pub record CanTake (front behind at : ℕ) (l : List A) : Type 0 where
    pub room : front + behind < length l
    pub there : at ≤ front + behind

  -- v is put in there, with the gap behind it
  pub record PutIn (front behind at : ℕ) (v : A) (l after : List A) : Type 0 where
    pub long : length after ≡ length l
    pub entries : CanTake front behind at l → closed (suc at) (front + behind - at) after ≡ ins at v (closed front behind l)
