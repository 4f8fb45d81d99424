-- An item named twice takes its later column, and no other item's column moves: `set` writes one place, and writes it over.
use mathlib.Core.Path.{◌≡◌}
use Prim.Native.Nat.{ℕ, ◌<◌}
use lib.ListN.{length}
use lib.Seq.{set-set, get_or-set_same, get_or-set_other}
use Rattle.rows.specs.declared.columns.Columns.{Columns}
use Rattle.rows.specs.Columns.{absent, with_column, column_of}

module _ (columns : Columns) (item : ℕ) where
  pub later_counts : (earlier later : ℕ) → with_column (with_column columns item earlier) item later ≡ with_column columns item later
  later_counts earlier later = λ i. record { places = set-set columns.places item earlier later i }

  pub column_taken : (column : ℕ) → item < length columns.places → column_of (with_column columns item column) item ≡ column
  column_taken column h = get_or-set_same columns.places item column absent h

  pub others_stay : (other column : ℕ) → (other ≡ item → ⊥) → column_of (with_column columns item column) other ≡ column_of columns other
  others_stay other column n = get_or-set_other columns.places item other column absent n
