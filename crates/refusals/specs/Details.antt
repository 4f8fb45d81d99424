-- The documents' numbers for what a reason names: each counts from 1 in the order in which a row is asked for it.
use Rattle.std.specs.Prelude.{ℕ, List, [], ◌∷◌, get_or}
use Rattle.refusals.specs.declared.details.Axis.{Axis}
use Rattle.refusals.specs.declared.details.Axis.TheVariants as axis
use Rattle.refusals.specs.declared.details.Column.{Column}
use Rattle.refusals.specs.declared.details.Column.TheVariants as column
use Rattle.refusals.specs.declared.details.Label.{Label}
use Rattle.refusals.specs.declared.details.Label.TheVariants as label
use Rattle.refusals.specs.declared.details.Quantity.{Quantity}
use Rattle.refusals.specs.declared.details.Quantity.TheVariants.{Coordinate, Occupancy}
use Rattle.refusals.specs.declared.details.RecordKind.{RecordKind}
use Rattle.refusals.specs.declared.details.RecordKind.TheVariants as kind

-- "atom, residue, chain, sequence, x, y, z"
abbrev pub column_number : Column → ℕ
column_number column.Atom = 1
column_number column.Residue = 2
column_number column.Chain = 3
column_number column.Sequence = 4
column_number column.X = 5
column_number column.Y = 6
column_number column.Z = 7

-- the column that has so many before it; the last, where there is none
abbrev pub all_but_last : List Column
all_but_last = column.Atom ∷ column.Residue ∷ column.Chain ∷ column.Sequence ∷ column.X ∷ column.Y ∷ []

abbrev pub column_at : ℕ → Column
column_at before = get_or all_but_last before column.Z

-- "x, then y, then z"
abbrev pub axis_number : Axis → ℕ
axis_number axis.X = 1
axis_number axis.Y = 2
axis_number axis.Z = 3

-- "axis, or 4 for occupancy"
abbrev pub quantity_number : Quantity → ℕ
quantity_number (Coordinate a) = axis_number a
quantity_number Occupancy = 4

-- "Names over 8 bytes: atom, residue, chain."
abbrev pub label_number : Label → ℕ
label_number label.Atom = 1
label_number label.Residue = 2
label_number label.Chain = 3

-- "Room: chain, residue, atom."
abbrev pub kind_number : RecordKind → ℕ
kind_number kind.Chain = 1
kind_number kind.Residue = 2
kind_number kind.Atom = 3
