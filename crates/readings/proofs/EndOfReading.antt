-- What stands for the acts' making at their end is answered and left as the reading says: a refusal was told before, and else the records are gathered and the finished
-- model is left.
use Prim.{Unit, tt}
use mathlib.Core.Path.{◌≡◌, refl, sym, ap, ◌∙◌, subst}
use mathlib.Core.Bool.{Bool, true, false, cond}
use mathlib.Core.List.{List}
use Prim.Native.Nat.{ℕ}
use lib.Dec.{ltb}
use lib.ListN.{length}
use Rattle.std.specs.Prelude.{Option, Some, None, Result, Ok, Err}
use Rattle.lines.specs.Domain.{outside_of}
use Rattle.lines.specs.declared.domain.Outside.{Outside}
use Rattle.refusals.specs.Reasons.{at}
use Rattle.refusals.specs.declared.reasons.Reason.TheVariants.{TextTooLong}
use Rattle.refusals.specs.declared.reasons.Refusal.{Refusal}
use Rattle.model.specs.Finished.{Finished, unknown, known, finished_of}
use Rattle.model.specs.Fold.{State, start}
use Rattle.model.specs.Lent.{Lent, room_of, holding, empty_model}
use Rattle.model.specs.Records.{Model}
use Rattle.model.specs.declared.room.Room.{Room}
use Rattle.building.specs.Gaps.{Gathers}
use Rattle.building.specs.Holds.{Records, records_in, Holds}
use Rattle.building.specs.declared.sites.Counts.{Counts}
use Rattle.finishing.specs.Finishing as finishing
use Rattle.finishing.specs.declared.finished.Unknown.{Unknown}
use Rattle.acts.specs.Acts.{Asked}
use Rattle.acts.specs.Making.{Making, going, halted, made}
use Rattle.acts.specs.Standing.{Stands, ahead}
use Rattle.acts.specs.declared.doing.Standing.{Standing}
use Rattle.readings.specs.Closing.{halted_by, halted_early, finished_by, chains_left, PeopledIn, Leaves}
use Rattle.readings.specs.Reading.{Reading, read, refused, largest, counts_of, finished, at_end, after_domain, reading_of, answer_of, left_by}
use Rattle.readings.proofs.SlicesOfOneSize.{same_room, same_holding}

-- ---- before all lines
pub early : (room : Room) (text : List ℕ) (acts : List Asked) → at_end (ahead (halted_early text) (made room start acts)) ≡ reading_of room text acts
unfolding reading_of halted_early
early room text acts = go (ltb largest (length text)) (outside_of text)
  where
    go : (b : Bool) (o : Option Outside) → at_end (ahead (cond b (Err (at 0 TextTooLong)) (halted_by o)) (made room start acts)) ≡ cond b (refused (at 0 TextTooLong)) (after_domain room acts o)
    go true o = refl
    go false None = refl
    go false (Some o) = refl

-- ---- after a refusal
abbrev told : Result (Unit {0}) Refusal → Refusal → Refusal
told (Ok u) other = other
told (Err why) other = why

not_going : (why : Refusal) → ◌≡◌ {A = Result (Unit {0}) Refusal} (Err why) (Ok tt) → ⊥
not_going why e = subst (λ h. tells h) e tt
  where
    tells : Result (Unit {0}) Refusal → Type 0
    tells (Ok u) = ⊥
    tells (Err why) = Unit {0}

pub refused_stays : (room : Room) (r : Records) (s : Standing) (why : Refusal) (making : Making) → s.halt ≡ Err why → Stands room r s making → at_end making ≡ refused why
refused_stays room r s why (going st) e h = absurd (not_going why (sym e ∙ h.0))
refused_stays room r s why (halted other) e h = ap (λ (x : Result (Unit {0}) Refusal). refused (told x other)) (sym h ∙ e)

-- ---- at the end
counts_are : (r : Records) (room : Room) (c : Counts) (st : State) → Holds r room c st → c ≡ counts_of st
counts_are r room c st h = λ i. record {
  chains = h.chains.many i;
  residues = h.residues.many i;
  atoms = h.atoms.many i;
  rows = h.rows i;
  skipped = h.skipped i;
  outdone = h.outdone i;
  assumed = h.assumed i;
}

finished_as : (counts : Counts) (f : Finished) → finished_by (finishing.answer_of f) counts ≡ answer_of (finished counts f)
finished_as counts (unknown place) = refl
finished_as counts (known m) = refl

left_as : (l : Lent) (counts : Counts) (f : Finished) → finishing.left_by l f ≡ left_by l (finished counts f)
left_as l counts (unknown place) = refl
left_as l counts (known m) = refl

chains_finished : (f : Result (Unit {0}) Unknown) (counts : Counts) → chains_left (finished_by f counts) ≡ finishing.chains_kept f counts
chains_finished (Err first) counts = refl
chains_finished (Ok done) counts = refl

-- by the answer as many chains stay as by what was finished
pub finished_leaves : (f : Result (Unit {0}) Unknown) (counts : Counts) {answer : Result Counts Refusal} → answer ≡ finished_by f counts → chains_left answer ≡ finishing.chains_kept f counts
finished_leaves f counts e = ap chains_left e ∙ chains_finished f counts

pub left_alike : (l between : Lent) → ((m : Model) → holding between m ≡ holding l m) → (reading : Reading) → left_by between reading ≡ left_by l reading
left_alike l between e (read m counts) = e m
left_alike l between e (refused why) = e empty_model

module _ (l between after : Lent) (s : Standing) (f : Result (Unit {0}) Unknown) (gathers : Gathers (records_in l) s.held (records_in between))
    (codes : length between.residue_codes ≡ length l.residue_codes) (places : length between.residue_positions ≡ length l.residue_positions) where
  pub finished_ends : finishing.Ends between s.held.counts f after → s.halt ≡ Ok tt → (making : Making) → Stands (room_of l) (records_in l) s making → PeopledIn making
      → Leaves l (at_end making) (finished_by f s.held.counts) after
  finished_ends ends e (going st) h p =
      let counts = s.held.counts in
      let same = same_room l between gathers.lengths codes places in
      let holds : Holds (records_in between) (room_of between) counts st = subst (λ (x : Room). Holds (records_in between) x counts st) (sym same) (gathers.model (room_of l) st h.1) in
      let end = ends st holds p in
      let n = counts_are (records_in between) (room_of between) counts st holds in (
        ap (λ (x : Result (Unit {0}) Unknown). finished_by x counts) end.0 ∙ finished_as counts (finished_of st) ∙ ap (λ (c : Counts). answer_of (finished c (finished_of st))) n,
        end.1 ∙ left_as between (counts_of st) (finished_of st) ∙ left_alike l between (same_holding l between gathers.lengths codes places) (finished (counts_of st) (finished_of st)),
      )
  finished_ends ends e (halted why) h p = absurd (not_going why (sym h ∙ e))
