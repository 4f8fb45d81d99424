-- Each refusal is given exactly when document 01's table says so, in every format. A reading ends in one of five ways, and what makes it end so is what the table asks;
-- no act earns 1, 2 or 11, so that each refusal has one way alone.
use mathlib.Core.Path.{◌≡◌, refl, sym, ap, ◌∙◌, subst}
use mathlib.Core.Logic.{◌↔◌}
use mathlib.Core.Bool.{Bool, true, false, cond}
use mathlib.Core.List.{List}
use mathlib.Core.Option.{Option, none, some}
use Prim.Native.Nat.{ℕ, ◌≤◌, ◌<◌}
use native.Mathlib.Omega.{arith}
use lib.Dec.{ltb}
use lib.ListN.{length}
use Rattle.std.specs.Prelude.{Some, None}
use Rattle.std.specs.Prelude as std
use borrow.Author.Tests.{ltb-true, ltb-false, lt-ltb, le-ltb}
use Rattle.lines.specs.Domain.{outside_of}
use Rattle.lines.specs.declared.domain.Outside.{Outside}
use Rattle.refusals.specs.Reasons.{at, number_of}
use Rattle.refusals.specs.declared.reasons.Reason.TheVariants.{TextTooLong, OutsideDomain, UnknownResidue}
use Rattle.refusals.specs.declared.reasons.Refusal.{Refusal}
use Rattle.model.specs.Finished.{unknown_in, model_from, unless, finished_of}
use Rattle.model.specs.Fold.{State, start}
use Rattle.model.specs.Records.{Model}
use Rattle.model.specs.declared.room.Room.{Room}
use Rattle.model.proofs.ListLaws.{all_after}
use Rattle.building.specs.declared.sites.Counts.{Counts}
use Rattle.acts.specs.Acts.{Asked}
use Rattle.acts.specs.Earning.{ActEarns, refuses, lacks_room, FirstActToEarn}
use Rattle.acts.specs.Making.{Making, going, halted, made}
use Rattle.acts.proofs.RefusedAtTheFirst.{refused_exactly}
use Rattle.readings.specs.Ends.{Admitted, DoneInto, OfAct, RefusesForItself, AllForThemselves, ToTheEnd}
use Rattle.readings.specs.Reading.{largest, Reading, read, refused, counts_of, finished, at_end, after_domain, reading_of}

-- ---- what an act earns is none of 1, 2 and 11
of_earned : {room : Room} {st : State} {a : Asked} {why : Refusal} → RefusesForItself a.act → ActEarns room st a why → OfAct (number_of why.reason)
of_earned so (refuses y e) = subst RefusesForItself e so
of_earned so (lacks_room s kind e l) = (omega arith, λ q. omega arith)

pub of_act_lem : {room : Room} {acts : List Asked} {why : Refusal} → AllForThemselves acts → FirstActToEarn room acts why → OfAct (number_of why.reason)
of_act_lem so f = of_earned (all_after (λ (a : Asked). RefusesForItself a.act) f.before _ (subst AllForThemselves f.among so)).0 f.earns

-- ---- how a reading ends
pub data Ends (room : Room) (text : List ℕ) (acts : List Asked) : Reading → Type 0 where
  long : largest < length text → Ends room text acts (refused (at 0 TextTooLong))
  outside : {line byte : ℕ} → length text ≤ largest → outside_of text ≡ Some (record { line = line; byte = byte }) → Ends room text acts (refused (at line (OutsideDomain byte)))
  of_act : {why : Refusal} → Admitted text → FirstActToEarn room acts why → Ends room text acts (refused why)
  unknown : {st : State} {place : ℕ} → DoneInto room text acts st → unknown_in st.residues ≡ some place → Ends room text acts (refused (at 0 (UnknownResidue place)))
  whole : {st : State} → DoneInto room text acts st → unknown_in st.residues ≡ none → Ends room text acts (read (model_from st) (counts_of st))

module _ (room : Room) (text : List ℕ) (acts : List Asked) where
  short_text : length text ≤ largest → reading_of room text acts ≡ after_domain room acts (outside_of text)
  unfolding reading_of
  short_text h = rw (le-ltb largest (length text) h)

  pub admitted_text : Admitted text → reading_of room text acts ≡ at_end (made room start acts)
  admitted_text a = short_text a.short ∙ ap (after_domain room acts) a.inside

  pub done_text : (st : State) → DoneInto room text acts st → reading_of room text acts ≡ finished (counts_of st) (finished_of st)
  done_text st r = admitted_text r.admitted ∙ ap at_end r.done

  by_unknown : (st : State) → DoneInto room text acts st → (o : Option ℕ) → unknown_in st.residues ≡ o → reading_of room text acts ≡ finished (counts_of st) (unless o (model_from st))
  unfolding finished_of
  by_unknown st r o e = done_text st r ∙ ap (λ (o : Option ℕ). finished (counts_of st) (unless o (model_from st))) e

  ends_so : (r : Reading) → Ends room text acts r → reading_of room text acts ≡ r
  unfolding reading_of
  ends_so r (long h) = rw (lt-ltb largest (length text) h)
  ends_so r (outside h e) = short_text h ∙ ap (after_domain room acts) e
  ends_so r (of_act {why} a f) = admitted_text a ∙ ap at_end ((refused_exactly room acts why).1 f)
  ends_so r (unknown {st} {place} i e) = by_unknown st i (some place) e
  ends_so r (whole {st} i e) = by_unknown st i none e

  ends : Ends room text acts (reading_of room text acts)
  unfolding reading_of finished_of
  ends = go (ltb largest (length text)) (ltb-true largest (length text)) (ltb-false largest (length text))
    where
      by_residues : (st : State) → DoneInto room text acts st → (o : Option ℕ) → unknown_in st.residues ≡ o → Ends room text acts (finished (counts_of st) (unless o (model_from st)))
      by_residues st i none e = whole i e
      by_residues st i (some place) e = unknown i e

      by_acts : Admitted text → (m : Making) → made room start acts ≡ m → Ends room text acts (at_end m)
      by_acts a (going s) e = by_residues s (record { admitted = a; done = e }) (unknown_in s.residues) refl
      by_acts a (halted why) e = of_act a ((refused_exactly room acts why).0 e)

      by_domain : length text ≤ largest → (o : std.Option Outside) → outside_of text ≡ o → Ends room text acts (after_domain room acts o)
      by_domain h None e = by_acts (record { short = h; inside = e }) (made room start acts) refl
      by_domain h (Some o) e = outside h e

      go : (t : Bool) → (t ≡ true → largest < length text) → (t ≡ false → length text ≤ largest) → Ends room text acts (cond t (refused (at 0 TextTooLong)) (after_domain room acts (outside_of text)))
      go true h k = long (h refl)
      go false h k = by_domain (k refl) (outside_of text) refl

  pub ends_at : (r : Reading) → reading_of room text acts ≡ r → Ends room text acts r
  ends_at r e = subst (Ends room text acts) e ends

  -- ---- what the acts earn
  pub act_refused : (why : Refusal) → OfAct (number_of why.reason) → (reading_of room text acts ≡ refused why) ↔ (Admitted text × FirstActToEarn room acts why)
  act_refused why so = (λ e. only why so (ends_at _ e), λ h. ends_so _ (of_act h.0 h.1))
    where
      only : (why : Refusal) → OfAct (number_of why.reason) → Ends room text acts (refused why) → Admitted text × FirstActToEarn room acts why
      only why so (long h) = absurd (omega (arith, so.0))
      only why so (outside h o) = absurd (omega (arith, so.0))
      only why so (of_act a f) = (a, f)
      only why so (unknown i u) = absurd (so.1 refl)

  -- ---- otherwise it is read
  pub otherwise_read : (m : Model) (counts : Counts) → (reading_of room text acts ≡ read m counts)
      ↔ ((st : State) × DoneInto room text acts st × (unknown_in st.residues ≡ none) × (m ≡ model_from st) × (counts ≡ counts_of st))
  otherwise_read m counts = (λ e. only m counts (ends_at _ e), λ h. ends_so _ (whole h.1 h.2) ∙ λ i. read (sym h.3 i) (sym h.4 i))
    where
      only : (m : Model) (counts : Counts) → Ends room text acts (read m counts)
          → (st : State) × DoneInto room text acts st × (unknown_in st.residues ≡ none) × (m ≡ model_from st) × (counts ≡ counts_of st)
      only m counts (whole {st} i u) = (st, i, u, refl, refl)

  module _ (so : AllForThemselves acts) where
    -- ---- 1
    pub text_too_long : (reading_of room text acts ≡ refused (at 0 TextTooLong)) ↔ (largest < length text)
    text_too_long = (λ e. only (ends_at _ e), λ h. ends_so _ (long h))
      where
        only : Ends room text acts (refused (at 0 TextTooLong)) → largest < length text
        only (long h) = h
        only (of_act a f) = absurd (omega (arith, (of_act_lem so f).0))

    -- ---- 2
    pub outside_domain : (line byte : ℕ) → (reading_of room text acts ≡ refused (at line (OutsideDomain byte))) ↔ ((length text ≤ largest) × (outside_of text ≡ Some (record { line = line; byte = byte })))
    outside_domain line byte = (λ e. only line byte (ends_at _ e), λ h. ends_so _ (outside h.0 h.1))
      where
        only : (line byte : ℕ) → Ends room text acts (refused (at line (OutsideDomain byte))) → (length text ≤ largest) × (outside_of text ≡ Some (record { line = line; byte = byte }))
        only line byte (outside h o) = (h, o)
        only line byte (of_act a f) = absurd (omega (arith, (of_act_lem so f).0))

    -- ---- 11
    pub unknown_residue : (place : ℕ) → (reading_of room text acts ≡ refused (at 0 (UnknownResidue place))) ↔ ((st : State) × DoneInto room text acts st × (unknown_in st.residues ≡ some place))
    unknown_residue place = (λ e. only (ends_at _ e), λ h. ends_so _ (unknown h.1 h.2))
      where
        only : Ends room text acts (refused (at 0 (UnknownResidue place))) → (st : State) × DoneInto room text acts st × (unknown_in st.residues ≡ some place)
        only (of_act a f) = absurd ((of_act_lem so f).1 refl)
        only (unknown {st} i u) = (st, i, u)

    -- ---- what is read to its end leaves a state
    pub into_a_state : ToTheEnd (reading_of room text acts) → (st : State) × DoneInto room text acts st
    into_a_state = go (reading_of room text acts) (ends_at _ refl)
      where
        go : (r : Reading) → Ends room text acts r → ToTheEnd r → (st : State) × DoneInto room text acts st
        go r (long h) end = absurd (omega arith)
        go r (outside h e) end = absurd (omega arith)
        go r (of_act a f) end = absurd ((of_act_lem so f).1 end)
        go r (unknown {st} i u) end = (st, i)
        go r (whole {st} i u) end = (st, i)
