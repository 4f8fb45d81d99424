-- The rules of a row, document 01's steps 1 to 7, over its fields. Each step says what becomes of a row that has passed those before it.
use Rattle.std.specs.Prelude.{Bool, true, false, cond, ltb, Float, Option, Some, None, Result, Ok, Err}
use Rattle.std.specs.Float.{binary64}
use Rattle.std.specs.Float.Ieee.{of_bits}
use Rattle.numbers.specs.declared.reading.NumberError.TheVariants as number
use Rattle.refusals.specs.declared.details.Axis.{Axis}
use Rattle.refusals.specs.declared.details.Axis.TheVariants.{X, Y, Z}
use Rattle.refusals.specs.declared.details.Label.TheVariants.{Atom, Residue, Chain}
use Rattle.refusals.specs.declared.details.Quantity.TheVariants as quantity
use Rattle.refusals.specs.declared.reasons.Reason.{Reason}
use Rattle.refusals.specs.declared.reasons.Reason.TheVariants as reason
use Rattle.rows.specs.declared.fields.Fields.{Fields}
use Rattle.rows.specs.declared.fields.Name.{Name}
use Rattle.rows.specs.declared.rules.Occupancy.{Occupancy}
use Rattle.rows.specs.declared.rules.Point3.{Point3}
use Rattle.rows.specs.declared.rules.Site.{Site}
use Rattle.rows.specs.declared.settings.Settings.{Settings}
use Rattle.rows.specs.declared.settings.Unreadable.{Unreadable}
use Rattle.rows.specs.declared.settings.Unreadable.TheVariants.{Assumed}
use Rattle.rows.specs.Fields.{Number, Measure}
use Rattle.rows.specs.Reach.{Reach, reason_of}

-- what becomes of a row: it is refused, skipped, or kept as a site
abbrev pub Row : Type 0
Row = Result (Option Site) Reason

-- a step refuses, or hands on what the steps after it go on with
abbrev pub passing : {A B : Type 0} → Result A Reason → (A → Result B Reason) → Result B Reason
passing (Err why) next = Err why
passing (Ok a) next = next a

-- 7: names over 8 bytes, atom, residue, chain
abbrev pub too_long : Name → Bool
too_long name = ltb 8 name.length

abbrev pub site_of : Fields → Point3 → Float → Bool → Site
site_of f position occupancy assumed = record {
  chain = f.chain.packed;
  sequence = f.sequence;
  insertion_code = f.insertion_code;
  residue = f.residue.packed;
  hetatm = f.hetatm;
  atom = f.atom.packed;
  element = f.element;
  position = position;
  occupancy = occupancy;
  assumed = assumed;
}

unfoldable pub named : Fields → Point3 → Float → Bool → Row
named f position occupancy assumed =
    cond (too_long f.atom) (Err (reason.NameTooLong Atom))
    (cond (too_long f.residue) (Err (reason.NameTooLong Residue))
    (cond (too_long f.chain) (Err (reason.NameTooLong Chain))
    (Ok (Some (site_of f position occupancy assumed)))))

-- 6: reach; what is absent, missing or outside the grammar is 1.0, and assumed
abbrev pub one : Float
one = of_bits binary64 0x3ff0_0000_0000_0000

abbrev pub assumed_one : Occupancy
assumed_one = record { value = one; assumed = true }

abbrev pub unread : Unreadable → Occupancy
unread Assumed = assumed_one

abbrev pub occupancy_of : Settings → Measure → Result Occupancy Reason
occupancy_of settings None = Ok assumed_one
occupancy_of settings (Some (Err number.OutsideGrammar)) = Ok (unread settings.occupancy)
occupancy_of settings (Some (Err number.BeyondReach)) = Err (reason.BeyondReach quantity.Occupancy)
occupancy_of settings (Some (Ok v)) = Ok (record { value = v; assumed = false })

unfoldable pub occupied : Settings → Fields → Point3 → Row
occupied settings f position = passing (occupancy_of settings f.occupancy) (λ o. named f position o.value o.assumed)

-- 5: x, then y, then z: grammar, then reach
abbrev pub coordinate_of : Axis → Number → Result Float Reason
coordinate_of axis (Err number.OutsideGrammar) = Err (reason.OutsideGrammar axis)
coordinate_of axis (Err number.BeyondReach) = Err (reason.BeyondReach (quantity.Coordinate axis))
coordinate_of axis (Ok v) = Ok v

abbrev pub position_of : Number → Number → Number → Result Point3 Reason
position_of x y z =
    passing (coordinate_of X x) (λ x.
    passing (coordinate_of Y y) (λ y.
    passing (coordinate_of Z z) (λ z.
    Ok (record { x = x; y = y; z = z }))))

unfoldable pub located : Settings → Fields → Number → Number → Number → Row
located settings f x y z = passing (position_of x y z) (occupied settings f)

-- 4: x, y or z is missing: skipped
abbrev pub given : Measure → (Number → Row) → Row
given None row = Ok None
given (Some n) row = row n

abbrev pub given_all : Measure → Measure → Measure → (Number → Number → Number → Row) → Row
given_all x y z row = given x (λ x. given y (λ y. given z (λ z. row x y z)))

unfoldable pub reached : Settings → Fields → Row
reached settings f = given_all f.x f.y f.z (located settings f)

-- 1 to 3
abbrev pub by_reach : Reach → Row → Row
by_reach (Err e) row = Err (reason_of e)
by_reach (Ok tt) row = row

unfoldable pub row_of : Settings → Fields → Row
row_of settings f = by_reach f.reach (reached settings f)
