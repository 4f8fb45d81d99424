-- The lent slices with zeros from the counts on: chains, residues and atoms.
use Rattle.field_slices.specs.Clearing.{cleared, zero_float, zero_point}
use Rattle.model.specs.Lent.{Lent}
use Rattle.model.specs.declared.room.Room.{Room}

unfoldable pub cleared_from : Lent → Room → Lent
cleared_from l kept = record {
  chains = cleared 0 kept.chains l.chains;
  residue_keys = cleared 0 kept.residues l.residue_keys;
  residue_names = cleared 0 kept.residues l.residue_names;
  residue_codes = cleared 0 kept.residues l.residue_codes;
  residue_categories = cleared 0 kept.residues l.residue_categories;
  residue_positions = cleared 0 kept.residues l.residue_positions;
  atom_keys = cleared 0 kept.atoms l.atom_keys;
  atom_names = cleared 0 kept.atoms l.atom_names;
  elements = cleared 0 kept.atoms l.elements;
  positions = cleared zero_point kept.atoms l.positions;
  occupancies = cleared zero_float kept.atoms l.occupancies;
}
