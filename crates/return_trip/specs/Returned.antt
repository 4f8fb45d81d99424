-- What a model is once its text is read: as it was, but that each coordinate is the double nearest its printed decimal, and each occupancy is 1.0.
use Rattle.std.specs.Prelude.{◌^◌, ◌≤◌, map, Float, length}
use Rattle.std.specs.Float.{binary64}
use Rattle.std.specs.Float.Ieee.{round}
use Rattle.numbers.specs.Rounding.{units_of, is_negative}
use Rattle.rows.specs.Rules.{one}
use Rattle.rows.specs.declared.rules.Point3.{Point3}
use Rattle.model.specs.Records.{AtomRecord, Model}
use Rattle.model.specs.declared.room.Room.{Room}
use Rattle.building.specs.declared.sites.Counts.{Counts}

-- the double nearest the decimal with three places: thousandths over a thousand
abbrev pub printed : Float → Float
printed x = round binary64 (is_negative x) (units_of 3 x) (10 ^ 3)

abbrev pub printed_point : Point3 → Point3
printed_point p = record { x = printed p.x; y = printed p.y; z = printed p.z }

abbrev pub returned_atom : AtomRecord → AtomRecord
returned_atom a = record { key = a.key; name = a.name; element = a.element; position = printed_point a.position; occupancy = one }

abbrev pub returned : Model → Model
returned m = record { chains = m.chains; residues = m.residues; atoms = map returned_atom m.atoms }

-- a row to each atom, none of them skipped, outdone or without its occupancy
abbrev pub returned_counts : Model → Counts
returned_counts m = record {
  chains = length m.chains;
  residues = length m.residues;
  atoms = length m.atoms;
  rows = length m.atoms;
  skipped = 0;
  outdone = 0;
  assumed = 0;
}

-- "read with as many records"
pub record AsMany (room : Room) (m : Model) : Type 0 where
  pub chains : length m.chains ≤ room.chains
  pub residues : length m.residues ≤ room.residues
  pub atoms : length m.atoms ≤ room.atoms
