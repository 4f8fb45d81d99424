-- Something new has room in every slice where it has room in the shortest, and no slice becomes longer or shorter.
use mathlib.Core.Path.{◌≡◌, refl, sym, ap, ◌∙◌, subst}
use mathlib.Core.Bool.{Bool, true, false, cond, ◌&&◌}
use Prim.Native.Nat.{ℕ, suc, ◌≤◌, ◌<◌}
use native.Mathlib.Omega.{arith}
use lib.Dec.{leb}
use lib.ListN.{length}
use borrow.Author.Tests.{leb-false}
use Rattle.model.specs.declared.room.Room.{Room}
use Rattle.model.specs.Room.{no_room}
use Rattle.building.specs.Holds.{Records, Within, SameLengths}

module _ (new : Bool) (room n : ℕ) where
  pub room_beside : no_room new room n ≡ false → new ≡ true → n < room
  room_beside e t = leb-false room n (ap (λ (b : Bool). b && leb room n) (sym t) ∙ e)

  pub within : no_room new room n ≡ false → n ≤ room → cond new (suc n) n ≤ room
  within e h = go new refl
    where
      go : (b : Bool) → new ≡ b → cond b (suc n) n ≤ room
      go true t = room_beside e t
      go false t = h

-- ---- the room in each slice
module _ (room : Room) (r : Records) (w : Within room r) (n : ℕ) where
  pub chain_room : n < room.chains → n < length r.chains
  chain_room h = omega (arith, w.chains)

-- ---- afterwards
as_long : {m k : ℕ} (n : ℕ) → m ≡ k → n ≤ k → n ≤ m
as_long {m} {k} n e h = subst (λ (z : ℕ). n ≤ z) (sym e) h

pub room_stays : (room : Room) (r after : Records) → SameLengths r after → Within room r → Within room after
room_stays room r after e w =
    let residues = room.residues in
    let atoms = room.atoms in
    record {
      sizes = w.sizes;
      chains = as_long room.chains e.chains w.chains;
      residues = (
        as_long residues e.residue_keys w.residues.0,
        as_long residues e.residue_names w.residues.1,
        as_long residues e.residue_marks w.residues.2,
      );
      atoms = (
        as_long atoms e.atom_keys w.atoms.0,
        as_long atoms e.atom_names w.atoms.1,
        as_long atoms e.elements w.atoms.2,
        as_long atoms e.positions w.atoms.3,
        as_long atoms e.occupancies w.atoms.4,
      );
    }
