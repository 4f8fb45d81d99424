-- When a row is refused: what each of steps 1 to 7 asks of a row that the steps before it let pass.
use Rattle.std.specs.Prelude.{◌≡◌, ◌≤◌, ◌<◌, Float, Some, Ok, Err}
use Rattle.numbers.specs.declared.reading.NumberError.TheVariants as number
use Rattle.refusals.specs.declared.details.Axis.{Axis}
use Rattle.refusals.specs.declared.details.Axis.TheVariants.{X, Y, Z}
use Rattle.refusals.specs.declared.details.Column.{Column}
use Rattle.refusals.specs.declared.details.Label.TheVariants.{Atom, Residue, Chain}
use Rattle.refusals.specs.declared.details.Quantity.TheVariants.{Coordinate, Occupancy}
use Rattle.refusals.specs.declared.reasons.Reason.{Reason}
use Rattle.refusals.specs.declared.reasons.Reason.TheVariants.{ColumnMissing, RowShort, OutsideGrammar, BeyondReach, NameTooLong}
use Rattle.rows.specs.declared.fields.Fields.{Fields}
use Rattle.rows.specs.declared.fields.ReachError.TheVariants as reach
use Rattle.rows.specs.declared.rules.Point3.{Point3}
use Rattle.rows.specs.Fields.{Number}

-- past steps 1 to 4: the row reaches all that it must, and x, y and z are given
pub record Reaches (f : Fields) (a b c : Number) : Type 0 where
  pub reach : f.reach ≡ Ok tt
  pub x : f.x ≡ Some a
  pub y : f.y ≡ Some b
  pub z : f.z ≡ Some c

-- past step 5: all three are values
abbrev pub Located : Fields → Point3 → Type 0
Located f p = Reaches f (Ok p.x) (Ok p.y) (Ok p.z)

-- past step 6: the occupancy is not beyond reach
pub record Occupied (f : Fields) : Type 0 where
  pub position : Point3
  pub located : Located f position
  pub occupancy : f.occupancy ≡ Some (Err number.BeyondReach) → ⊥

-- grammar, then reach, of the number on an axis
pub data Fails (axis : Axis) : Number → Reason → Type 0 where
  grammar : Fails axis (Err number.OutsideGrammar) (OutsideGrammar axis)
  beyond : Fails axis (Err number.BeyondReach) (BeyondReach (Coordinate axis))

pub data RowEarns (f : Fields) : Reason → Type 0 where
  -- 1
  missing : {column : Column} → f.reach ≡ Err (reach.ColumnMissing column) → RowEarns f (ColumnMissing column)
  -- 2, 3
  short : f.reach ≡ Err reach.Short → RowEarns f RowShort
  -- 5
  fails_x : {a b c : Number} {why : Reason} → Reaches f a b c → Fails X a why → RowEarns f why
  fails_y : {x : Float} {b c : Number} {why : Reason} → Reaches f (Ok x) b c → Fails Y b why → RowEarns f why
  fails_z : {x y : Float} {c : Number} {why : Reason} → Reaches f (Ok x) (Ok y) c → Fails Z c why → RowEarns f why
  -- 6
  occupancy : {position : Point3} → Located f position → f.occupancy ≡ Some (Err number.BeyondReach) → RowEarns f (BeyondReach Occupancy)
  -- 7
  long_atom : Occupied f → 8 < f.atom.length → RowEarns f (NameTooLong Atom)
  long_residue : Occupied f → f.atom.length ≤ 8 → 8 < f.residue.length → RowEarns f (NameTooLong Residue)
  long_chain : Occupied f → f.atom.length ≤ 8 → f.residue.length ≤ 8 → 8 < f.chain.length → RowEarns f (NameTooLong Chain)
