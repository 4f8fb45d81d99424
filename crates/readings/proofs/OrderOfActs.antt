-- Demand 3 over acts, said once for every format. The one text is read to its end, so none of its acts refuses; then none of the other's does, their rows are alike and
-- leave the same state, and that fits the room.
use mathlib.Core.Path.{◌≡◌, sym, ap, ◌∙◌, subst}
use mathlib.Core.List.{List}
use Prim.Native.Nat.{ℕ}
use Rattle.model.specs.Fold.{State, start, model_of}
use Rattle.model.specs.Lists.{All}
use Rattle.model.specs.Proper.{Proper}
use Rattle.model.specs.Room.{Fits}
use Rattle.model.specs.Sound.{Sound}
use Rattle.model.specs.Taken.{sites}
use Rattle.model.specs.declared.room.Room.{Room}
use Rattle.model.proofs.ListLaws.{all_map}
use Rattle.model.proofs.OrderOfRows.{same_model}
use Rattle.acts.specs.Acts.{Asked, rows_in}
use Rattle.acts.specs.Making.{going}
use Rattle.acts.proofs.MadeByRows.{goes_made}
use Rattle.readings.specs.Ends.{Admitted, DoneInto, AllForThemselves, ToTheEnd}
use Rattle.readings.specs.Order.{ActsDiffer}
use Rattle.readings.specs.Reading.{reading_of}
use Rattle.readings.proofs.ReadByTheRows.{model_of_rows}
use Rattle.readings.proofs.RefusalsAreExact.{done_text, into_a_state}
use Rattle.readings.proofs.RowsReordered.{other_goes_on, rows_alike}

module _ (a b : List Asked) (d : ActsDiffer a b) (sound : All Sound (sites (rows_in a))) where
  pub same_state : model_of (rows_in a) ≡ model_of (rows_in b)
  same_state = same_model (rows_in a) (rows_in b) (rows_alike a b d) (all_map Sound Proper (λ s h. h.proper) (sites (rows_in a)) sound)

  module _ (room : Room) (t u : List ℕ) where
    pub other_done : Admitted u → (st : State) → DoneInto room t a st → DoneInto room u b st
    other_done admitted st r =
        let m = model_of_rows room t a st r in
        let q : st ≡ model_of (rows_in b) = m.state ∙ same_state in
        record {
          admitted = admitted;
          done = goes_made room start b (other_goes_on a b d.acts m.goes) (subst (Fits room) q m.fits) ∙ ap going (sym q);
        }

    -- ---- the theorem
    pub order_of_acts : Admitted u → AllForThemselves a → ToTheEnd (reading_of room t a) → reading_of room t a ≡ reading_of room u b
    order_of_acts admitted so end =
        let (st, r) = into_a_state room t a so end in
        done_text room t a st r ∙ sym (done_text room u b st (other_done admitted st r))
