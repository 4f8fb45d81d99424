-- Document 01's whole case, as rows: the second row does not replace the first, since its occupancy is equal; the third one's is assumed. Where
-- there is no room, the chain comes before the residue, and the residue before the atom.
use mathlib.Core.Path.{◌≡◌, refl}
use mathlib.Core.Bool.{true, false}
use mathlib.Core.List.{List, [], ◌∷◌}
use Prim.Native.Nat.{ℕ, ◌+◌, ◌^◌}
use Prim.Native.String.{String}
use lib.Ieee.{Float, binary64, of_bits, lt}
use Rattle.ascii.specs.Bytes.{bytes}
use Rattle.names.specs.Packing.{packed_in, packed}
use Rattle.rows.specs.declared.rules.Point3.{Point3}
use Rattle.model.specs.Chains.{chain_place, with_chain}
use Rattle.model.specs.Fold.{step}
use Rattle.model.specs.Keys.{residue_key, atom_place, residue_at, atom_at}
use Rattle.model.specs.Map.{find, put}
use Rattle.refusals.specs.declared.details.RecordKind.TheVariants as kind
use Rattle.model.specs.declared.room.Room.{Room}
use Rattle.model.specs.Room.{lacking, whole, stopped, read_from, read_within}
use Rattle.model.specs.Taken.{Taken, site}

-- the double nearest 0.6, and 1.0
abbrev pub six_tenths : Float
six_tenths = of_bits binary64 0x3fe3_3333_3333_3333

abbrev pub one : Float
one = of_bits binary64 0x3ff0_0000_0000_0000

abbrev pub name : String → ℕ
name s = packed (bytes s)

abbrev room : ℕ → ℕ → ℕ → Room
room chains residues atoms = record { chains = chains; residues = residues; atoms = atoms }

module _ (p q r : Point3) where
  abbrev ca : Point3 → Taken
  ca p = site (record {
    chain = name "A";
    sequence = 2 ^ 31 + 7;
    insertion_code = 0;
    residue = name "MSE";
    hetatm = false;
    atom = name "CA";
    element = 6;
    position = p;
    occupancy = six_tenths;
    assumed = false;
  })

  abbrev o : Taken
  o = site (record {
    chain = name "A";
    sequence = 2 ^ 31 + 9;
    insertion_code = 0;
    residue = name "QQQ";
    hetatm = true;
    atom = name "O'";
    element = 8;
    position = r;
    occupancy = one;
    assumed = true;
  })

  abbrev pub case : List Taken
  case = ca p ∷ ca q ∷ o ∷ []

  pub whole_case : read_within (room 1 2 2) case ≡ whole (record {
    chains = name "A" ∷ [];
    residues =
        record { key = residue_key 0 (2 ^ 31 + 7) 0; value = record { name = name "MSE"; hetatm = false } }
        ∷ record { key = residue_key 0 (2 ^ 31 + 9) 0; value = record { name = name "QQQ"; hetatm = true } }
        ∷ [];
    atoms =
        record { key = atom_place (residue_key 0 (2 ^ 31 + 7) 0) (name "CA"); value = record { element = 6; position = p; occupancy = six_tenths } }
        ∷ record { key = atom_place (residue_key 0 (2 ^ 31 + 9) 0) (name "O'"); value = record { element = 8; position = r; occupancy = one } }
        ∷ [];
    rows = 3;
    skipped = 0;
    outdone = 1;
    assumed = 1;
  })
  unfolding read_from lacking step put find chain_place with_chain residue_at atom_at packed_in lt of_bits
  whole_case = refl

  pub no_room_for_atom : read_within (room 1 2 1) case ≡ stopped 2 kind.Atom
  unfolding read_from lacking step put find chain_place with_chain residue_at atom_at packed_in lt of_bits
  no_room_for_atom = refl

  pub no_room_for_residue : read_within (room 1 1 1) case ≡ stopped 2 kind.Residue
  unfolding read_from lacking step put find chain_place with_chain residue_at atom_at packed_in lt of_bits
  no_room_for_residue = refl

  pub no_room_for_chain : read_within (room 0 0 0) case ≡ stopped 0 kind.Chain
  unfolding read_from lacking step put find chain_place with_chain residue_at atom_at packed_in lt of_bits
  no_room_for_chain = refl
