-- No slice has become longer or shorter where each is as long as before, and so over two steps.
use mathlib.Core.Path.{refl, ◌∙◌}
use Rattle.building.specs.Holds.{Records, SameLengths}

pub lengths_same : (r : Records) → SameLengths r r
lengths_same r = record {
  chains = refl;
  residue_keys = refl;
  residue_names = refl;
  residue_marks = refl;
  atom_keys = refl;
  atom_names = refl;
  elements = refl;
  positions = refl;
  occupancies = refl;
}

pub lengths_then : {r s t : Records} → SameLengths r s → SameLengths s t → SameLengths r t
lengths_then a b = record {
  chains = b.chains ∙ a.chains;
  residue_keys = b.residue_keys ∙ a.residue_keys;
  residue_names = b.residue_names ∙ a.residue_names;
  residue_marks = b.residue_marks ∙ a.residue_marks;
  atom_keys = b.atom_keys ∙ a.atom_keys;
  atom_names = b.atom_names ∙ a.atom_names;
  elements = b.elements ∙ a.elements;
  positions = b.positions ∙ a.positions;
  occupancies = b.occupancies ∙ a.occupancies;
}
