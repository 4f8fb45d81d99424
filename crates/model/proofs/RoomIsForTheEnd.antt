-- Room is a matter of the final sizes: no row makes chains, residues or atoms fewer, so the rows are read to their end exactly where what they leave in the
-- end fits.
use mathlib.Core.Path.{◌≡◌, refl, sym, ap, ◌∙◌, subst}
use mathlib.Core.List.{List, [], ◌∷◌}
use Prim.Native.Nat.{ℕ}
use native.Mathlib.Omega.{arith}
use Rattle.refusals.specs.declared.details.RecordKind.{RecordKind}
use Rattle.std.specs.Prelude.{Option, None, Some}
use Rattle.model.specs.Fold.{State, start, step, run, model_of}
use Rattle.model.specs.declared.room.Room.{Room}
use Rattle.model.specs.Room.{Fits, lacking, whole, stopped, onward, read_from, read_within}
use Rattle.model.specs.Taken.{Taken}
use Rattle.model.proofs.RoomLaws.{fits_none, none_fits, fitted_all, fits_start}

module _ (room : Room) where
  read_whole : (st : State) (l : List Taken) → Fits room (run st l) → read_from room st l ≡ whole (run st l)
  unfolding run read_from
  read_whole st [] f = refl
  read_whole st (r ∷ l) f =
      ap (λ (d : Option RecordKind). onward st.rows d (read_from room (step st r) l)) (fits_none room st r (fitted_all room (step st r) l f)) ∙ read_whole (step st r) l f

  whole_read : (st su : State) (l : List Taken) → Fits room st → read_from room st l ≡ whole su → (su ≡ run st l) × Fits room su
  unfolding run read_from
  whole_read st su [] f e = let q : su ≡ st = cc in (q, subst (Fits room) (sym q) f)
  whole_read st su (r ∷ l) f e = go (lacking room st r) refl e (whole_read (step st r) su l)
    where
      apart : (d : RecordKind) → stopped st.rows d ≡ whole su → ⊥
      apart d p = let z : ◌≡◌ {A = ℕ} 0 1 = cc in omega arith

      go : (d : Option RecordKind) → lacking room st r ≡ d → onward st.rows d (read_from room (step st r) l) ≡ whole su
          → (Fits room (step st r) → read_from room (step st r) l ≡ whole su → (su ≡ run (step st r) l) × Fits room su) → (su ≡ run (step st r) l) × Fits room su
      go None n q later = later (none_fits room st r f n) q
      go (Some d) n q later = absurd (apart d q)

  -- ---- the theorems
  pub read_to_the_end : (l : List Taken) → Fits room (model_of l) → read_within room l ≡ whole (model_of l)
  read_to_the_end l f = read_whole start l f

  pub the_end_fits : (l : List Taken) (st : State) → read_within room l ≡ whole st → (st ≡ model_of l) × Fits room st
  the_end_fits l st e = whole_read start st l (fits_start room) e
