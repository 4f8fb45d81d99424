-- Demand 2 over acts: what is read is the model of the rows among them, which the rules of document 01 decide.
use mathlib.Core.Path.{◌≡◌, sym, ap, ◌∙◌, subst}
use mathlib.Core.Logic.{◌↔◌}
use mathlib.Core.List.{List}
use mathlib.Core.Option.{Option, none, some}
use Prim.Native.Nat.{ℕ}
use Rattle.refusals.specs.Reasons.{at}
use Rattle.refusals.specs.declared.reasons.Reason.TheVariants.{UnknownResidue}
use Rattle.model.specs.Finished.{unknown, known, unknown_in, model_from, unless, finished_of}
use Rattle.model.specs.Fold.{State, start, model_of}
use Rattle.model.specs.Lists.{All}
use Rattle.model.specs.Proper.{Proper}
use Rattle.model.specs.Records.{Model}
use Rattle.model.specs.Room.{Fits}
use Rattle.model.specs.Rules.{Ruled}
use Rattle.model.specs.Sound.{Sound}
use Rattle.model.specs.Taken.{sites}
use Rattle.model.specs.declared.room.Room.{Room}
use Rattle.model.proofs.FoldKeepsRules.{fold_keeps_rules}
use Rattle.model.proofs.ListLaws.{all_map}
use Rattle.model.proofs.RoomLaws.{fits_start}
use Rattle.building.specs.declared.sites.Counts.{Counts}
use Rattle.acts.specs.Acts.{Asked, rows_in, AllGoOn}
use Rattle.acts.specs.Earning.{NoActEarns}
use Rattle.acts.proofs.MadeByRows.{made_by_rows}
use Rattle.acts.proofs.RefusedAtTheFirst.{done_exactly}
use Rattle.readings.specs.Ends.{Admitted, DoneInto, AllForThemselves}
use Rattle.readings.specs.Reading.{read, refused, counts_of, finished, reading_of}
use Rattle.readings.proofs.RefusalsAreExact.{done_text, unknown_residue, otherwise_read}

module _ (room : Room) (text : List ℕ) (acts : List Asked) where
  abbrev pub model : State
  model = model_of (rows_in acts)

  -- what is done to its end
  pub record ModelOfRows (st : State) : Type 0 where
    pub goes : AllGoOn acts
    pub state : st ≡ model_of (rows_in acts)
    pub fits : Fits room st

  pub model_of_rows : (st : State) → DoneInto room text acts st → ModelOfRows st
  model_of_rows st r = let d = made_by_rows room start acts st r.done in record { goes = d.goes; state = d.rows; fits = d.fits (fits_start room) }

  -- a text that is not refused for its bytes or its acts is done to its end
  pub done_into : Admitted text → NoActEarns room acts → (st : State) × DoneInto room text acts st
  done_into a n = let r = (done_exactly room acts).1 n in (r.0, record { admitted = a; done = r.1 })

  record Ended (o : Option ℕ) (st : State) : Type 0 where
    admitted : Admitted text
    none_earns : NoActEarns room acts
    finish : finished_of model ≡ unless o (model_from st)

  ended : (st : State) → DoneInto room text acts st → (o : Option ℕ) → unknown_in st.residues ≡ o → Ended o st
  unfolding finished_of
  ended st r o u = record {
    admitted = r.admitted;
    none_earns = (done_exactly room acts).0 (st, r.done);
    finish = ap finished_of (sym (model_of_rows st r).state) ∙ ap (λ (o : Option ℕ). unless o (model_from st)) u;
  }

  -- ---- the theorems
  -- it ends as the model of its rows does
  pub read_to_the_end : Admitted text → NoActEarns room acts → reading_of room text acts ≡ finished (counts_of (model_of (rows_in acts))) (finished_of (model_of (rows_in acts)))
  read_to_the_end a n =
      let (st, r) = done_into a n in
      done_text room text acts st r ∙ ap (λ (st : State). finished (counts_of st) (finished_of st)) (model_of_rows st r).state

  pub read_exactly : (m : Model) (counts : Counts) → (reading_of room text acts ≡ read m counts)
      ↔ (Admitted text × NoActEarns room acts × (finished_of (model_of (rows_in acts)) ≡ known m) × (counts ≡ counts_of (model_of (rows_in acts))))
  read_exactly m counts = (only, λ h. read_to_the_end h.0 h.1 ∙ λ i. finished (sym h.3 i) (h.2 i))
    where
      only : reading_of room text acts ≡ read m counts → Admitted text × NoActEarns room acts × (finished_of model ≡ known m) × (counts ≡ counts_of model)
      only e =
          let (st, r, u, m-is, counts_are) = (otherwise_read room text acts m counts).0 e in
          let h = ended st r none u in
          (h.admitted, h.none_earns, h.finish ∙ ap known (sym m-is), counts_are ∙ ap counts_of (model_of_rows st r).state)

  pub unknown_exactly : AllForThemselves acts → (place : ℕ) → (reading_of room text acts ≡ refused (at 0 (UnknownResidue place)))
      ↔ (Admitted text × NoActEarns room acts × (finished_of (model_of (rows_in acts)) ≡ unknown place))
  unknown_exactly so place = (
    λ e. let (st, r, u) = (unknown_residue room text acts so place).0 e in let h = ended st r (some place) u in (h.admitted, h.none_earns, h.finish),
    λ h. read_to_the_end h.0 h.1 ∙ ap (finished (counts_of model)) h.2,
  )

  -- the rules of the model, of sites that are sound
  pub read_by_the_rows : All Sound (sites (rows_in acts)) → (m : Model) (counts : Counts) → reading_of room text acts ≡ read m counts
      → (finished_of (model_of (rows_in acts)) ≡ known m) × (counts ≡ counts_of (model_of (rows_in acts))) × Ruled (rows_in acts) (model_of (rows_in acts)) × Fits room (model_of (rows_in acts))
  read_by_the_rows sound m counts e =
      let (st, r, u, m-is, counts_are) = (otherwise_read room text acts m counts).0 e in
      let by = model_of_rows st r in (
        (ended st r none u).finish ∙ ap known (sym m-is),
        counts_are ∙ ap counts_of by.state,
        fold_keeps_rules (rows_in acts) (all_map Sound Proper (λ s h. h.proper) (sites (rows_in acts)) sound),
        subst (Fits room) by.state by.fits,
      )
