-- A reading that does not come to its end stops at the first row without room, and says what that row lacks; and it stops wherever there is such a row.
use mathlib.Core.Path.{◌≡◌, refl, ap, ◌∙◌}
use mathlib.Core.List.{List, [], ◌∷◌, ◌++◌}
use Prim.Native.Nat.{ℕ, suc, ◌+◌}
use native.Mathlib.Omega.{arith}
use lib.ListN.{length}
use Rattle.refusals.specs.declared.details.RecordKind.{RecordKind}
use Rattle.std.specs.Prelude.{Option, None, Some}
use Rattle.model.specs.Fold.{State, start, step, run}
use Rattle.model.specs.declared.room.Room.{Room}
use Rattle.model.specs.Room.{Fits, lacking, whole, stopped, onward, read_from, read_within, StopsAt}
use Rattle.model.specs.Taken.{Taken, skipped, site}
use Rattle.model.proofs.RoomLaws.{fits_none, none_fits, fitted_all, fits_start}

module _ (room : Room) where
  one_row : (st : State) (r : Taken) → (step st r).rows ≡ suc st.rows
  unfolding step
  one_row st skipped = refl
  one_row st (site s) = refl

  stop_at : (st : State) (p : List Taken) (r : Taken) (q : List Taken) (d : RecordKind) → Fits room (run st p) → lacking room (run st p) r ≡ Some d
      → read_from room st (p ++ r ∷ q) ≡ stopped (st.rows + length p) d
  unfolding run read_from
  stop_at st [] r q d f e = ap (λ (n : Option RecordKind). onward st.rows n (read_from room (step st r) q)) e ∙ ap (λ (i : ℕ). stopped i d) (omega arith)
  stop_at st (x ∷ p) r q d f e =
      ap (λ (n : Option RecordKind). onward st.rows n (read_from room (step st x) (p ++ r ∷ q))) (fits_none room st x (fitted_all room (step st x) p f))
      ∙ stop_at (step st x) p r q d f e
      ∙ ap (λ (i : ℕ). stopped i d) (omega (arith, one_row st x))

  -- the rows that are read, the one without room, and the others
  abbrev Cut : State → List Taken → ℕ → RecordKind → Type 0
  Cut st l i d =
      (p : List Taken) × (r : Taken) × (q : List Taken)
      × (l ≡ p ++ r ∷ q) × (i ≡ st.rows + length p) × Fits room (run st p) × (lacking room (run st p) r ≡ Some d)

  cut_at : (st : State) (l : List Taken) (i : ℕ) (d : RecordKind) → Fits room st → read_from room st l ≡ stopped i d → Cut st l i d
  unfolding run read_from
  cut_at st [] i d f e = absurd (apart e)
    where
      apart : whole st ≡ stopped i d → ⊥
      apart p = let z : ◌≡◌ {A = ℕ} 0 1 = cc in omega arith
  cut_at st (r ∷ l) i d f e = go (lacking room st r) refl e (cut_at (step st r) l i d)
    where
      go : (n : Option RecordKind) → lacking room st r ≡ n → onward st.rows n (read_from room (step st r) l) ≡ stopped i d
          → (Fits room (step st r) → read_from room (step st r) l ≡ stopped i d → Cut (step st r) l i d) → Cut st (r ∷ l) i d
      go None n q later =
          let w = later (none_fits room st r f n) q in
          (r ∷ w.0, w.1, w.2, ap (λ (m : List Taken). r ∷ m) w.3, w.4 ∙ omega (arith, one_row st r), w.5, w.6)
      go (Some n) m q later =
          let i-is : st.rows ≡ i = cc in
          let d-is : n ≡ d = cc in
          ([], r, l, refl, omega arith, f, m ∙ ap Some d-is)

  -- ---- the theorems
  pub stops_at_first : (l : List Taken) (i : ℕ) (d : RecordKind) → read_within room l ≡ stopped i d → StopsAt room l i d
  stops_at_first l i d e =
      let w = cut_at start l i d (fits_start room) e in
      record { before = w.0; row = w.1; after = w.2; rows = w.3; place = w.4 ∙ omega arith; fits = w.5; lacks = w.6 }

  pub first_stops : (l : List Taken) (i : ℕ) (d : RecordKind) → StopsAt room l i d → read_within room l ≡ stopped i d
  first_stops l i d s =
      ap (read_within room) s.rows ∙ stop_at start s.before s.row s.after d s.fits s.lacks ∙ ap (λ (j : ℕ). stopped j d) (omega (arith, s.place))
