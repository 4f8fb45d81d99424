-- Each count goes up by one where it should, and what lacks room is found by the tests in their order.
use mathlib.Core.Path.{◌≡◌, refl, ap, ◌∙◌}
use mathlib.Core.Bool.{Bool, true, false, cond, ◌&&◌}
use Prim.Native.Nat.{ℕ, suc, ◌^◌, ◌≤◌, ◌<◌}
use native.Mathlib.Omega.{arith}
use lib.Dec.{ltb}
use borrow.Author.Tests.{lt-ltb, le-ltb}
use Rattle.model.specs.declared.room.Room.{Room}
use Rattle.refusals.specs.declared.details.RecordKind.TheVariants as kind
use Rattle.model.specs.Room.{no_room, first_lack}
use Rattle.std.specs.Prelude.{None, Some, is_err}
use Rattle.model.proofs.RoomLaws.{nothing_lacks}
use Rattle.building.specs.declared.sites.Counts.{Counts}
use Rattle.building.specs.declared.sites.Places.{Places}
use Rattle.building.specs.Sites.{is_new_chain, lack_of, one_more}

-- ---- one more
module _ (n : ℕ) where
  pub none_more : (more : Bool) → more ≡ false → one_more more n ≡ n
  unfolding one_more
  none_more more e = ap (λ (t : Bool). cond (t && ltb n 18446744073709551615) (suc n) n) e

  pub greatest : (more : Bool) → 18446744073709551615 ≤ n → one_more more n ≡ n
  unfolding one_more
  greatest true h = ap (λ (t : Bool). cond t (suc n) n) (le-ltb n 18446744073709551615 h)
  greatest false h = refl

  pub counts_up : (more : Bool) → more ≡ true → n < 18446744073709551615 → one_more more n ≡ suc n
  unfolding one_more
  counts_up more e h =
      ap (λ (t : Bool). cond (t && ltb n 18446744073709551615) (suc n) n) e ∙ ap (λ (t : Bool). cond t (suc n) n) (lt-ltb n 18446744073709551615 h)

  pub more_counted : (more : Bool) → suc n < 2 ^ 64 → one_more more n ≡ cond more (suc n) n
  more_counted true h = counts_up true refl (omega arith)
  more_counted false h = none_more false refl

  pub no_fewer : (more : Bool) → n ≤ one_more more n
  unfolding one_more
  no_fewer more = go (more && ltb n 18446744073709551615)
    where
      go : (t : Bool) → n ≤ cond t (suc n) n
      go true = omega arith
      go false = omega arith

-- ---- what lacks room
module _ (room : Room) (c : Counts) (p : Places) where
  abbrev pub no_chain : Bool
  no_chain = no_room (is_new_chain c p) room.chains c.chains

  abbrev pub no_residue : Bool
  no_residue = no_room (is_err p.residue) room.residues c.residues

  abbrev pub no_atom : Bool
  no_atom = no_room (is_err p.atom) room.atoms c.atoms

  pub lacks_chain : no_chain ≡ true → lack_of room c p ≡ Some kind.Chain
  unfolding lack_of
  lacks_chain e = ap (λ (t : Bool). first_lack t no_residue no_atom) e

  pub lacks_residue : no_chain ≡ false → no_residue ≡ true → lack_of room c p ≡ Some kind.Residue
  unfolding lack_of
  lacks_residue e f = λ i. first_lack (e i) (f i) no_atom

  pub lacks_atom : no_chain ≡ false → no_residue ≡ false → no_atom ≡ true → lack_of room c p ≡ Some kind.Atom
  unfolding lack_of
  lacks_atom e f g = λ i. first_lack (e i) (f i) (g i)

  pub lacks_none : no_chain ≡ false → no_residue ≡ false → no_atom ≡ false → lack_of room c p ≡ None
  unfolding lack_of
  lacks_none e f g = λ i. first_lack (e i) (f i) (g i)

  pub all_have_room : lack_of room c p ≡ None → (no_chain ≡ false) × (no_residue ≡ false) × (no_atom ≡ false)
  unfolding lack_of
  all_have_room = nothing_lacks no_chain no_residue no_atom
