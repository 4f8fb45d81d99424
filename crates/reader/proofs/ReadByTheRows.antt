-- Demand 2 over texts. What is read is the model of the rows among the text's acts, and these are the rows of the text, by its states and the row rules.
use mathlib.Core.Path.{◌≡◌, sym, ap, ◌∙◌, subst}
use mathlib.Core.Logic.{◌↔◌}
use mathlib.Core.List.{List}
use Prim.Native.Nat.{ℕ, ◌+◌}
use Rattle.lines.specs.Lines.{lines_of}
use Rattle.refusals.specs.Reasons.{at}
use Rattle.refusals.specs.declared.reasons.Reason.TheVariants.{UnknownResidue}
use Rattle.rows.specs.declared.settings.Settings.{Settings}
use Rattle.line_states.specs.Heads.{start_heads}
use Rattle.model.specs.Finished.{unknown, known, finished_of}
use Rattle.model.specs.Fold.{State, start, model_of}
use Rattle.model.specs.Records.{Model}
use Rattle.model.specs.Room.{Fits}
use Rattle.model.specs.Rules.{Ruled}
use Rattle.model.specs.Taken.{Taken}
use Rattle.model.specs.declared.room.Room.{Room}
use Rattle.building.specs.declared.sites.Counts.{Counts}
use Rattle.acts.specs.Acts.{Asked, rows_in, AllGoOn}
use Rattle.acts.specs.Earning.{NoActEarns}
use Rattle.acts.specs.Making.{going, made}
use Rattle.acts.proofs.RefusedAtTheFirst.{done_exactly}
use Rattle.readings.specs.Ends.{Admitted}
use Rattle.readings.specs.Reading.{read, refused, counts_of, finished}
use Rattle.readings.proofs.ReadByTheRows as acted
use Rattle.mmcif.specs.Acts.{acts_from, acts_of}
use Rattle.mmcif.specs.Rows.{rows_of}
use Rattle.mmcif.proofs.RowsOfActs.{rows_of_acts}
use Rattle.reader.specs.Exact.{NoneEarns, ReadInto}
use Rattle.reader.specs.Reading.{read_of}
use Rattle.reader.proofs.LinesEarn.{first_to_earn, acts_for_themselves}
use Rattle.reader.proofs.RefusalsAreExact.{otherwise_read}
use Rattle.reader.proofs.RowsAreSound.{acts_are_sound}

module _ (settings : Settings) (room : Room) where
  -- no line earns a refusal exactly where no act does
  none_earns : (lines : List (List ℕ)) → NoActEarns room (acts_from settings 1 start_heads lines) ↔ NoneEarns settings room lines
  none_earns lines = (λ n why f. n why ((first_to_earn settings room lines why).1 f), λ n why f. n why ((first_to_earn settings room lines why).0 f))

  -- lines are read to their end exactly where none earns a refusal
  pub all_lines_read : (lines : List (List ℕ)) → ((st : State) × (made room start (acts_from settings 1 start_heads lines) ≡ going st)) ↔ NoneEarns settings room lines
  all_lines_read lines =
      let acts = acts_from settings 1 start_heads lines in
      (λ r. (none_earns lines).0 ((done_exactly room acts).0 r), λ n. (done_exactly room acts).1 ((none_earns lines).1 n))

  -- ---- texts
  module _ (text : List ℕ) where
    abbrev acts : List Asked
    acts = acts_of settings text

    abbrev lines : List (List ℕ)
    lines = lines_of text

    rows_are : AllGoOn acts → rows_in acts ≡ rows_of settings text
    rows_are = rows_of_acts settings 1 start_heads lines

    into_rows : (st : State) → ReadInto settings room text st → rows_in acts ≡ rows_of settings text
    into_rows st r = rows_are (acted.model_of_rows room text acts st r).goes

    none_earned : Admitted text → NoneEarns settings room lines → rows_in acts ≡ rows_of settings text
    none_earned a n = let (st, r) = acted.done_into room text acts a ((none_earns lines).1 n) in into_rows st r

    pub model_of_rows : (st : State) → ReadInto settings room text st → (st ≡ model_of (rows_of settings text)) × Fits room st
    model_of_rows st r = let m = acted.model_of_rows room text acts st r in (m.state ∙ ap model_of (into_rows st r), m.fits)

    -- ---- the theorems
    -- a text that is not refused for its bytes or its lines ends as the model of its rows does
    pub read_to_the_end : Admitted text → NoneEarns settings room (lines_of text) → read_of settings room text ≡ finished (counts_of (model_of (rows_of settings text))) (finished_of (model_of (rows_of settings text)))
    read_to_the_end a n =
        acted.read_to_the_end room text acts a ((none_earns lines).1 n)
        ∙ ap (λ (rows : List Taken). finished (counts_of (model_of rows)) (finished_of (model_of rows))) (none_earned a n)

    pub read_exactly : (m : Model) (counts : Counts) → (read_of settings room text ≡ read m counts)
        ↔ (Admitted text × NoneEarns settings room (lines_of text) × (finished_of (model_of (rows_of settings text)) ≡ known m) × (counts ≡ counts_of (model_of (rows_of settings text))))
    read_exactly m counts = (only, λ h. read_to_the_end h.0 h.1 ∙ λ i. finished (sym h.3 i) (h.2 i))
      where
        only : read_of settings room text ≡ read m counts → Admitted text × NoneEarns settings room lines × (finished_of (model_of (rows_of settings text)) ≡ known m) × (counts ≡ counts_of (model_of (rows_of settings text)))
        only e =
            let h = (acted.read_exactly room text acts m counts).0 e in
            let n = (none_earns lines).0 h.1 in
            let rows = none_earned h.0 n in
            (h.0, n, ap (λ (l : List Taken). finished_of (model_of l)) (sym rows) ∙ h.2, h.3 ∙ ap (λ (l : List Taken). counts_of (model_of l)) rows)

    pub unknown_exactly : (place : ℕ) → (read_of settings room text ≡ refused (at 0 (UnknownResidue place)))
        ↔ (Admitted text × NoneEarns settings room (lines_of text) × (finished_of (model_of (rows_of settings text)) ≡ unknown place))
    unknown_exactly place = (only, λ h. read_to_the_end h.0 h.1 ∙ ap (finished (counts_of (model_of (rows_of settings text)))) h.2)
      where
        only : read_of settings room text ≡ refused (at 0 (UnknownResidue place)) → Admitted text × NoneEarns settings room lines × (finished_of (model_of (rows_of settings text)) ≡ unknown place)
        only e =
            let h = (acted.unknown_exactly room text acts (acts_for_themselves settings 1 start_heads lines) place).0 e in
            let n = (none_earns lines).0 h.1 in
            (h.0, n, ap (λ (l : List Taken). finished_of (model_of l)) (sym (none_earned h.0 n)) ∙ h.2)

    pub read_by_the_rows : (m : Model) (counts : Counts) → read_of settings room text ≡ read m counts
        → (finished_of (model_of (rows_of settings text)) ≡ known m) × (counts ≡ counts_of (model_of (rows_of settings text))) × Ruled (rows_of settings text) (model_of (rows_of settings text)) × Fits room (model_of (rows_of settings text))
    read_by_the_rows m counts e =
        let into = (otherwise_read settings room text m counts).0 e in
        let sound = acts_are_sound settings text into.1.admitted (acted.model_of_rows room text acts into.0 into.1).goes in
        subst (λ (rows : List Taken). (finished_of (model_of rows) ≡ known m) × (counts ≡ counts_of (model_of rows)) × Ruled rows (model_of rows) × Fits room (model_of rows)) (into_rows into.0 into.1)
        (acted.read_by_the_rows room text acts sound m counts e)

    -- rows = skipped + outdone + atoms
    pub rows_add_up : (m : Model) (counts : Counts) → read_of settings room text ≡ read m counts → counts.rows ≡ counts.skipped + counts.outdone + counts.atoms
    rows_add_up m counts e =
        let h = read_by_the_rows m counts e in
        subst (λ (c : Counts). c.rows ≡ c.skipped + c.outdone + c.atoms) (sym h.1) h.2.sum
