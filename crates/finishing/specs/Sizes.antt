-- No slice of the lent records is longer or shorter than it was. SameLengths of building says so of the nine slices that hold records while rows are read.
use Rattle.std.specs.Prelude.{◌≡◌, length}
use Rattle.model.specs.declared.lent.ResiduesMut.{ResiduesMut}
use Rattle.model.specs.declared.lent.AtomsMut.{AtomsMut}

abbrev pub SameSizes : ResiduesMut → AtomsMut → ResiduesMut → AtomsMut → Type 0
SameSizes r a r' a' =
    (length r'.keys.now ≡ length r.keys.now) × (length r'.names.now ≡ length r.names.now) × (length r'.codes.now ≡ length r.codes.now)
    × (length r'.categories.now ≡ length r.categories.now) × (length r'.positions.now ≡ length r.positions.now)
    × (length a'.keys.now ≡ length a.keys.now) × (length a'.names.now ≡ length a.names.now) × (length a'.elements.now ≡ length a.elements.now)
    × (length a'.positions.now ≡ length a.positions.now) × (length a'.occupancies.now ≡ length a.occupancies.now)
