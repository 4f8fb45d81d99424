-- A row that reaches all that it must has a token, which is not empty, at each of the seven columns: none of them is absent, and it misses none.
use mathlib.Core.Path.{◌≡◌, refl, ap}
use mathlib.Core.Logic.{◌⊎◌, inl, inr}
use mathlib.Core.List.Memᴰ
use mathlib.Core.List.{List, [], ◌∷◌, Memᴰ}
use mathlib.Core.Bool.{Bool, true, false, ◌&&◌, ◌||◌, not, cond, false≢true}
use Prim.Native.Nat.{ℕ, ◌+◌, ◌<◌}
use native.Mathlib.Omega.{arith}
use lib.Dec.{leb}
use lib.ListN.{length}
use borrow.Author.Tests.{leb-false}
use Rattle.std.specs.Prelude.{Option, Some, None, is_none, option_map, Ok, is_ok}
use Rattle.refusals.specs.declared.details.Column.{Column}
use Rattle.refusals.specs.Details.{column_at}
use Rattle.ascii.proofs.TestLaws.{neither_of}
use Rattle.tokens.specs.Tokens.{tokens_of, token_at}
use Rattle.tokens.proofs.NoTokenIsEmpty.{token_some}
use Rattle.rows.specs.declared.columns.Columns.{Columns}
use Rattle.rows.specs.Columns.{is_absent}
use Rattle.rows.specs.Reach.{required, optional, first_absent, missing_column, misses, reach_by, reach_of}

by_whole : (m : Option Column) (t u : Bool) → is_ok (reach_by m (t || u)) ≡ true → (m ≡ None) × (t ≡ false)
by_whole None true u e = absurd (false≢true e)
by_whole None false u e = (refl, refl)
by_whole (Some column) t u e = absurd (false≢true e)

none_mapped : {A B : Type 0} (f : A → B) (o : Option A) → option_map f o ≡ None → o ≡ None
none_mapped f None e = refl
none_mapped f (Some a) e = absurd (false≢true (ap is_none e))

all_reached : (n k : ℕ) (columns : List ℕ) → first_absent k columns ≡ None → misses n columns ≡ false → (column : ℕ) → Memᴰ column columns → column < n
unfolding first_absent misses
all_reached n k [] a m column d = absurd (Memᴰ.not-nil d)
all_reached n k (c ∷ columns) a m column d = go (is_absent c) a m (all_reached n (k + 1) columns)
  where
    go : (t : Bool) → cond t (Some k) (first_absent (k + 1) columns) ≡ None → ((not t && leb n c) || misses n columns) ≡ false
        → (first_absent (k + 1) columns ≡ None → misses n columns ≡ false → (column : ℕ) → Memᴰ column columns → column < n) → column < n
    go true a m r = absurd (false≢true (ap is_none a))
    go false a m r = let e = neither_of (leb n c) (misses n columns) m in at (leb-false n c e.0) (r a e.1 column) (Memᴰ.cases_cons d)
      where
        at : c < n → (Memᴰ column columns → column < n) → (column ≡ c) ⊎ Memᴰ column columns → column < n
        at h r (inl e) = omega arith
        at h r (inr m) = r m

-- ---- the theorem
pub whole_rows_reach : (columns : Columns) (line : List ℕ) → reach_of columns (length (tokens_of line)) ≡ Ok tt → (column : ℕ) → Memᴰ column (required columns) → 0 < length (token_at line column)
unfolding reach_of missing_column
whole_rows_reach columns line e column d =
    let n = length (tokens_of line) in
    let h = by_whole (missing_column columns) (misses n (required columns)) (misses n (optional columns)) (ap is_ok e) in
    token_some line column (all_reached n 0 (required columns) (none_mapped column_at (first_absent 0 (required columns)) h.0) h.1 column d)
