-- What a clause says of records that are lent to be written: what their slices hold, and that a function leaves them the same slices.
use Rattle.std.specs.Prelude.{◌≡◌, List, ℕ}
use Rattle.model.specs.declared.lent.ResiduesMut.{ResiduesMut}
use Rattle.model.specs.declared.lent.AtomsMut.{AtomsMut}
use Rattle.model.specs.Lent.{Lent, lent_of}

-- what they hold, with the names of the chains
abbrev pub lent_now : List ℕ → ResiduesMut → AtomsMut → Lent
lent_now chains r a = lent_of chains r.keys.now r.names.now r.codes.now r.categories.now r.positions.now a.keys.now a.names.now a.elements.now a.positions.now a.occupancies.now

-- the same slices, whatever they hold
abbrev pub SameResidues : ResiduesMut → ResiduesMut → Type 0
SameResidues r after =
    (after.keys.ghost_name ≡ r.keys.ghost_name) × (after.names.ghost_name ≡ r.names.ghost_name) × (after.codes.ghost_name ≡ r.codes.ghost_name)
    × (after.categories.ghost_name ≡ r.categories.ghost_name) × (after.positions.ghost_name ≡ r.positions.ghost_name)

abbrev pub SameAtoms : AtomsMut → AtomsMut → Type 0
SameAtoms a after =
    (after.keys.ghost_name ≡ a.keys.ghost_name) × (after.names.ghost_name ≡ a.names.ghost_name) × (after.elements.ghost_name ≡ a.elements.ghost_name)
    × (after.positions.ghost_name ≡ a.positions.ghost_name) × (after.occupancies.ghost_name ≡ a.occupancies.ghost_name)
