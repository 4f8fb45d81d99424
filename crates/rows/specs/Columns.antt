-- The column map: which column of the loop each of the fifteen items has, 64 where it has none.
use Rattle.std.specs.Prelude.{ℕ, Bool, cond, eqb, get_or, set, replicate}
use Rattle.rows.specs.declared.columns.Columns.{Columns}

abbrev pub absent : ℕ
absent = 64

abbrev pub no_columns : Columns
no_columns = record { places = replicate 15 absent }

-- "one named twice takes its later column"; the place 15, of an item that does not matter, is past the end and takes none
abbrev pub with_column : Columns → ℕ → ℕ → Columns
with_column columns item column = record { places = set columns.places item column }

-- the items in the order of the map, as the tokens' `item_of` numbers them
abbrev pub column_of : Columns → ℕ → ℕ
column_of columns item = get_or columns.places item absent

abbrev pub is_absent : ℕ → Bool
is_absent column = eqb column absent

-- "the auth column is used if its header exists, `.` or not; else the label column"
abbrev pub chosen : ℕ → ℕ → ℕ
chosen auth label = cond (is_absent auth) label auth

abbrev pub group : Columns → ℕ
group columns = column_of columns 0

abbrev pub atom : Columns → ℕ
atom columns = chosen (column_of columns 1) (column_of columns 2)

abbrev pub residue : Columns → ℕ
residue columns = chosen (column_of columns 3) (column_of columns 4)

abbrev pub chain : Columns → ℕ
chain columns = chosen (column_of columns 5) (column_of columns 6)

abbrev pub sequence : Columns → ℕ
sequence columns = chosen (column_of columns 7) (column_of columns 8)

abbrev pub insertion_code : Columns → ℕ
insertion_code columns = column_of columns 9

abbrev pub x : Columns → ℕ
x columns = column_of columns 10

abbrev pub y : Columns → ℕ
y columns = column_of columns 11

abbrev pub z : Columns → ℕ
z columns = column_of columns 12

abbrev pub occupancy : Columns → ℕ
occupancy columns = column_of columns 13

abbrev pub symbol : Columns → ℕ
symbol columns = column_of columns 14
