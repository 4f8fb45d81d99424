-- Steps 1 to 3 of a row: which column is missing, and whether the row reaches all that it must.
use Rattle.std.specs.Prelude.{ℕ, Bool, ◌&&◌, ◌||◌, not, cond, List, [], ◌∷◌, leb, ltb, Option, Some, None, Result, Ok, Err, option_map}
use Rattle.std.specs.List.{list_any, position_from}
use Rattle.refusals.specs.declared.details.Column.{Column}
use Rattle.refusals.specs.declared.reasons.Reason.{Reason}
use Rattle.refusals.specs.declared.reasons.Reason.TheVariants as reason
use Rattle.refusals.specs.Details.{column_at}
use Rattle.rows.specs.declared.columns.Columns.{Columns}
use Rattle.rows.specs.declared.fields.ReachError.{ReachError}
use Rattle.rows.specs.declared.fields.ReachError.TheVariants.{ColumnMissing, Short}
use Rattle.rows.specs.Columns.{is_absent, group, atom, residue, chain, sequence, insertion_code, x, y, z, occupancy, symbol}

-- whether a row has all the columns that it must have, and reaches them
abbrev pub Reach : Type 0
Reach = Result (Unit {0}) ReachError

abbrev pub reason_of : ReachError → Reason
reason_of (ColumnMissing column) = reason.ColumnMissing column
reason_of Short = reason.RowShort

-- the seven columns that a row must have, in the order of step 1; the four that it must reach where they are declared, in the order of step 3
abbrev pub required : Columns → List ℕ
required columns = atom columns ∷ residue columns ∷ chain columns ∷ sequence columns ∷ x columns ∷ y columns ∷ z columns ∷ []

abbrev pub optional : Columns → List ℕ
optional columns = group columns ∷ insertion_code columns ∷ occupancy columns ∷ symbol columns ∷ []

-- the place of the first absent one, counted from k
unfoldable pub first_absent : ℕ → List ℕ → Option ℕ
first_absent k columns = position_from is_absent k columns

unfoldable pub missing_column : Columns → Option Column
missing_column columns = option_map column_at (first_absent 0 (required columns))

-- a row of n tokens does not reach one of the columns that are declared
unfoldable pub misses : ℕ → List ℕ → Bool
misses n columns = list_any (λ column. not (is_absent column) && leb n column) columns

abbrev pub is_short : Columns → ℕ → Bool
is_short columns n = misses n (required columns) || misses n (optional columns)

-- by the missing column, and whether the row is short
abbrev pub reach_by : Option Column → Bool → Reach
reach_by (Some column) short = Err (ColumnMissing column)
reach_by None short = cond short (Err Short) (Ok tt)

unfoldable pub reach_of : Columns → ℕ → Reach
reach_of columns n = reach_by (missing_column columns) (is_short columns n)

-- ---- the furthest column: where none is missing, a row is short exactly where it does not reach that one (`furthest_decides`)

abbrev pub farther : ℕ → ℕ → ℕ
farther far column = cond (is_absent column) far (cond (ltb far column) column far)

unfoldable pub furthest : ℕ → List ℕ → ℕ
furthest far [] = far
furthest far (column ∷ columns) = furthest (farther far column) columns

unfoldable pub furthest_of : Columns → ℕ
furthest_of columns = furthest (furthest 0 (required columns)) (optional columns)
