-- What a walk over residues in their order says of each one's position, by its index.
use Rattle.std.specs.Prelude.{◌≡◌, List, ℕ, zero, suc, get_or, take, drop}
use Rattle.field_slices.specs.Places.{pairs}
use Rattle.model.specs.Neighbours.{met_with, position_between}
use Rattle.model.specs.declared.lent.ResiduesMut.{ResiduesMut}

-- the chain, from 1, of the last one before residue i
unfoldable pub met_before : List ℕ → List ℕ → ℕ → ℕ
met_before keys codes zero = 0
met_before keys codes (suc i) = met_with (met_before keys codes i) (get_or keys i 0) (get_or codes i 0)

-- residue i, of n
unfoldable pub position_at : List ℕ → List ℕ → ℕ → ℕ → ℕ
position_at keys codes n i = position_between (met_before keys codes i) (get_or keys i 0) (get_or codes i 0) (drop (suc i) (take n (pairs keys codes)))

-- of lent records, no other slice changes
pub record PositionsAlone (r after : ResiduesMut) : Type 0 where
  pub keys : after.keys.now ≡ r.keys.now
  pub names : after.names.now ≡ r.names.now
  pub codes : after.codes.now ≡ r.codes.now
  pub categories : after.categories.now ≡ r.categories.now
