-- A row lacks room for nothing exactly where the state after it fits: each of chains, residues and atoms is one more where the row has a new one, and
-- else as many as before. So no row makes any of them fewer.
use mathlib.Core.Path.{◌≡◌, refl, ap}
use mathlib.Core.Bool.{Bool, true, false, cond, false≢true}
use mathlib.Core.List.{List, [], ◌∷◌}
use Prim.Native.Nat.{ℕ, suc, ◌≤◌}
use native.Mathlib.Nat.{le_trans}
use native.Mathlib.Omega.{arith}
use lib.Dec.{leb}
use lib.ListN.{length}
use borrow.Author.Tests.{leb-false, lt-leb}
use Rattle.std.specs.Prelude.{Option, None, Some}
use Rattle.refusals.specs.declared.details.RecordKind.{RecordKind}
use Rattle.rows.specs.declared.rules.Site.{Site}
use Rattle.model.specs.Chains.{chain_place, with_chain}
use Rattle.model.specs.Fold.{State, first, greater, start, step, run}
use Rattle.model.specs.Keys.{residue_at, atom_at}
use Rattle.model.specs.Map.{find, put, is_none}
use Rattle.model.specs.declared.room.Room.{Room}
use Rattle.model.specs.Room.{Fits, no_room, first_lack, lacking}
use Rattle.model.specs.Taken.{Taken, skipped, site}
use Rattle.model.proofs.ChainsFirstMet.{length_with}
use Rattle.model.proofs.MapLaws.{length_put}

-- ---- one more, or as many as before
enough : (room many after : ℕ) (new : Bool) → after ≡ cond new (suc many) many → after ≤ room → no_room new room many ≡ false
enough room many after true e h = lt-leb room many (omega arith)
enough room many after false e h = refl

suffices : (room many after : ℕ) (new : Bool) → after ≡ cond new (suc many) many → many ≤ room → no_room new room many ≡ false → after ≤ room
suffices room many after true e h n = omega (arith, leb-false room many n)
suffices room many after false e h n = omega arith

no_fewer : (room many after : ℕ) (new : Bool) → after ≡ cond new (suc many) many → many ≤ after
no_fewer room many after true e = omega arith
no_fewer room many after false e = omega arith

abbrev is_nothing : Option RecordKind → Bool
is_nothing None = true
is_nothing (Some kind) = false

pub nothing_lacks : (chain residue atom : Bool) → first_lack chain residue atom ≡ None → (chain ≡ false) × (residue ≡ false) × (atom ≡ false)
nothing_lacks true residue atom e = absurd (false≢true (ap is_nothing e))
nothing_lacks false true atom e = absurd (false≢true (ap is_nothing e))
nothing_lacks false false true e = absurd (false≢true (ap is_nothing e))
nothing_lacks false false false e = (refl, refl, refl)

-- ---- what a row adds
module _ (room : Room) (st : State) (s : Site) where
  abbrev c : List ℕ
  c = with_chain s.chain st.chains

  abbrev new_chain : Bool
  new_chain = leb (length st.chains) (chain_place s.chain st.chains)

  abbrev new_residue : Bool
  new_residue = is_none (find (residue_at c s) st.residues)

  abbrev new_atom : Bool
  new_atom = is_none (find (atom_at c s) st.atoms)

  -- what is said of the chains, residues and atoms there were, and of those there are then
  abbrev Sizes : (ℕ → ℕ → ℕ → Bool → Type 0) → Type 0
  Sizes P =
      P room.chains (length st.chains) (length c) new_chain
      × P room.residues (length st.residues) (length (put (residue_at c s) (first s) st.residues)) new_residue
      × P room.atoms (length st.atoms) (length (put (atom_at c s) (greater s) st.atoms)) new_atom

  sizes : (P : ℕ → ℕ → ℕ → Bool → Type 0) → ((room many after : ℕ) (new : Bool) → after ≡ cond new (suc many) many → P room many after new) → Sizes P
  sizes P h = (
    h _ _ _ new_chain (length_with s.chain st.chains),
    h _ _ _ new_residue (length_put (residue_at c s) (first s) st.residues),
    h _ _ _ new_atom (length_put (atom_at c s) (greater s) st.atoms),
  )

  fits_site : Fits room (step st (site s)) → lacking room st (site s) ≡ None
  unfolding step lacking
  fits_site f = let h = sizes (λ room many after new. after ≤ room → no_room new room many ≡ false) enough in rw (h.0 f.chains, h.1 f.residues, h.2 f.atoms)

  site_fits : Fits room st → lacking room st (site s) ≡ None → Fits room (step st (site s))
  unfolding step lacking
  site_fits f e =
      let n = nothing_lacks (no_room new_chain room.chains (length st.chains)) (no_room new_residue room.residues (length st.residues)) (no_room new_atom room.atoms (length st.atoms)) e in
      let h = sizes (λ room many after new. many ≤ room → no_room new room many ≡ false → after ≤ room) suffices in
      record { chains = h.0 f.chains n.0; residues = h.1 f.residues n.1; atoms = h.2 f.atoms n.2 }

  fitted_site : Fits room (step st (site s)) → Fits room st
  unfolding step
  fitted_site f =
      let h = sizes (λ room many after new. many ≤ after) no_fewer in
      record { chains = le_trans h.0 f.chains; residues = le_trans h.1 f.residues; atoms = le_trans h.2 f.atoms }

module _ (room : Room) where
  -- ---- a row lacks nothing exactly where the state after it fits, and no row makes anything fewer
  pub fits_none : (st : State) (r : Taken) → Fits room (step st r) → lacking room st r ≡ None
  unfolding lacking
  fits_none st skipped f = refl
  fits_none st (site s) f = fits_site room st s f

  pub none_fits : (st : State) (r : Taken) → Fits room st → lacking room st r ≡ None → Fits room (step st r)
  unfolding step
  none_fits st skipped f e = record { chains = f.chains; residues = f.residues; atoms = f.atoms }
  none_fits st (site s) f e = site_fits room st s f e

  fitted : (st : State) (r : Taken) → Fits room (step st r) → Fits room st
  unfolding step
  fitted st skipped f = record { chains = f.chains; residues = f.residues; atoms = f.atoms }
  fitted st (site s) f = fitted_site room st s f

  pub fitted_all : (st : State) (l : List Taken) → Fits room (run st l) → Fits room st
  unfolding run
  fitted_all st [] f = f
  fitted_all st (r ∷ l) f = fitted st r (fitted_all (step st r) l f)

  pub fits_start : Fits room start
  fits_start = record { chains = omega arith; residues = omega arith; atoms = omega arith }
