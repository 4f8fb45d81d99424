-- The lent slices with another chain list.
use mathlib.Core.Path.{◌≡◌}
use mathlib.Core.List.{List, []}
use Prim.Native.Nat.{ℕ, min}
use lib.ListN.{length}
use Rattle.model.specs.Lent.{Lent, lent_of, room_of}

abbrev pub with_chains : Lent → List ℕ → Lent
with_chains l chains =
    lent_of
    chains
    l.residue_keys
    l.residue_names
    l.residue_codes
    l.residue_categories
    l.residue_positions
    l.atom_keys
    l.atom_names
    l.elements
    l.positions
    l.occupancies

-- of the chain list, the room asks the length alone, up to 4,096
pub same_room : (l : Lent) (a b : List ℕ) → min 4096 (length a) ≡ min 4096 (length b) → room_of (with_chains l a) ≡ room_of (with_chains l b)
unfolding room_of
same_room l a b e = λ i. record { chains = e i; residues = (room_of (with_chains l [])).residues; atoms = (room_of (with_chains l [])).atoms }
