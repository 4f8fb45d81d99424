-- A row that has all the columns that it must have is short exactly where it does not reach the furthest of those and of the others that are declared.
use mathlib.Core.Path.{◌≡◌, refl, sym, ap, ◌∙◌}
use mathlib.Core.List.{List, [], ◌∷◌}
use mathlib.Core.Bool.{Bool, true, false, ◌&&◌, ◌||◌, not, cond, false≢true}
use Prim.Native.Nat.{ℕ, ◌≤◌, ◌<◌, zero-le}
use native.Mathlib.Nat.{le_trans, le_of_lt}
use lib.Dec.{T, leb, ltb, leb→le, ltb→lt, nltb→le}
use borrow.Author.Tests.{le-leb}
use Rattle.std.specs.Prelude.{Option, Some, None, is_none, option_map}
use Rattle.refusals.specs.Details.{column_at}
use Rattle.rows.specs.declared.columns.Columns.{Columns}
use Rattle.rows.specs.Columns.{is_absent}
use Rattle.rows.specs.Reach.{required, optional, first_absent, missing_column, misses, is_short, farther, furthest, furthest_of}

or_false : (t : Bool) → t ≡ (t || false)
or_false true = refl
or_false false = refl

or_assoc : (r s t : Bool) → ((r || s) || t) ≡ (r || (s || t))
or_assoc true s t = refl
or_assoc false s t = refl

-- a row that does not reach the farther of two does not reach the one or the other
farther_missed : (n far column : ℕ) → leb n (farther far column) ≡ (leb n far || (not (is_absent column) && leb n column))
farther_missed n far column = go (is_absent column)
  where
    further : (t : Bool) → (T t → far < column) → (T (not t) → column ≤ far) → leb n (cond t column far) ≡ (leb n far || leb n column)
    further true less most = reach (leb n far) (leb→le n far)
      where
        reach : (u : Bool) → (T u → n ≤ far) → leb n column ≡ (u || leb n column)
        reach true within = le-leb n column (le_trans (within tt) (le_of_lt (less tt)))
        reach false within = refl
    further false less most = reach (leb n far) refl (leb n column) (leb→le n column)
      where
        reach : (u : Bool) → leb n far ≡ u → (v : Bool) → (T v → n ≤ column) → leb n far ≡ (u || v)
        reach true e v within = e
        reach false e true within = le-leb n far (le_trans (within tt) (most tt))
        reach false e false within = e

    go : (a : Bool) → leb n (cond a far (cond (ltb far column) column far)) ≡ (leb n far || (not a && leb n column))
    go true = or_false (leb n far)
    go false = further (ltb far column) (ltb→lt far column) (nltb→le far column)

furthest_missed : (n far : ℕ) (columns : List ℕ) → leb n (furthest far columns) ≡ (leb n far || misses n columns)
unfolding furthest misses
furthest_missed n far [] = or_false (leb n far)
furthest_missed n far (column ∷ columns) =
    furthest_missed n (farther far column) columns
    ∙ ap (λ (t : Bool). t || misses n columns) (farther_missed n far column)
    ∙ or_assoc (leb n far) (not (is_absent column) && leb n column) (misses n columns)

-- where the first column is declared, a row that reaches nothing at all misses it
none_missed : (n column : ℕ) (columns : List ℕ) → first_absent 0 (column ∷ columns) ≡ None → (leb n 0 || misses n (column ∷ columns)) ≡ misses n (column ∷ columns)
unfolding first_absent misses
none_missed n column columns e = go (is_absent column) e (leb n 0) (leb→le n 0)
  where
    go : (a : Bool) → cond a (Some 0) (first_absent 1 columns) ≡ None → (t : Bool) → (T t → n ≤ 0) → (t || ((not a && leb n column) || misses n columns)) ≡ ((not a && leb n column) || misses n columns)
    go true e t none = absurd (false≢true (ap is_none e))
    go false e true none = ap (λ (u : Bool). u || misses n columns) (sym (le-leb n column (le_trans (none tt) zero-le)))
    go false e false none = refl

pub all_missed : (n column : ℕ) (columns others : List ℕ) → first_absent 0 (column ∷ columns) ≡ None → leb n (furthest (furthest 0 (column ∷ columns)) others) ≡ (misses n (column ∷ columns) || misses n others)
all_missed n column columns others e =
    furthest_missed n (furthest 0 (column ∷ columns)) others
    ∙ ap (λ (t : Bool). t || misses n others) (furthest_missed n 0 (column ∷ columns) ∙ none_missed n column columns e)

-- no column is missing where none is found absent
none_absent : (o : Option ℕ) → option_map column_at o ≡ None → o ≡ None
none_absent None e = refl
none_absent (Some k) e = absurd (false≢true (ap is_none e))

pub furthest_decides : (columns : Columns) (n : ℕ) → missing_column columns ≡ None → is_short columns n ≡ leb n (furthest_of columns)
unfolding missing_column furthest_of
furthest_decides columns n e = sym (all_missed n _ _ (optional columns) (none_absent (first_absent 0 (required columns)) e))
