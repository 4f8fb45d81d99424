-- A residue and an atom by value: the key taken apart, the sequence as a signed number.
use Rattle.std.specs.Prelude.{ℕ, ◌^◌, ℤ, pos, ◌-ℤ◌}
use Rattle.model.specs.declared.taken_out.Atom.{Atom}
use Rattle.model.specs.declared.taken_out.Residue.{Residue}
use Rattle.model.specs.Keys.{chain_part, sequence_part, code_part}
use Rattle.model.specs.Records.{ResidueRecord, AtomRecord}

-- a number moved up by 2 ^ 31, moved down again
unfoldable pub signed : ℕ → ℤ
signed n = pos n -ℤ pos (2 ^ 31)

unfoldable pub residue_out : ResidueRecord → Residue
residue_out r = record {
  chain = chain_part r.key;
  sequence = signed (sequence_part r.key);
  insertion_code = code_part r.key;
  name = r.name;
  code = r.code;
  category = r.category;
  position = r.position;
}

unfoldable pub atom_out : AtomRecord → Atom
atom_out a = record { key = a.key; name = a.name; element = a.element; position = a.position; occupancy = a.occupancy }
