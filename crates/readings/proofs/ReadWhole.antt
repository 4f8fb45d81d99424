-- A reader as a whole: what halts a text early halts it here, its acts leave slices of the same lengths that stand for what they make, each residue of which has an
-- atom, and closing answers and leaves what the reading says.
use Prim.{Unit, tt}
use mathlib.Core.Path.{◌≡◌, refl, sym, ap, ◌∙◌, subst}
use mathlib.Core.Bool.{Bool, true, false, cond}
use mathlib.Core.List.{List}
use Prim.Native.Nat.{ℕ}
use lib.Dec.{ltb}
use lib.ListN.{length}
use Rattle.std.specs.Prelude.{Option, Some, None, Result, Err}
use borrow.Author.Tests.{ltb-false}
use Rattle.lines.specs.Domain.{outside_of}
use Rattle.lines.specs.declared.domain.Outside.{Outside}
use Rattle.refusals.specs.Reasons.{at}
use Rattle.refusals.specs.declared.reasons.Reason.TheVariants.{TextTooLong}
use Rattle.refusals.specs.declared.reasons.Refusal.{Refusal}
use Rattle.model.specs.Finished.{Peopled}
use Rattle.model.specs.Fold.{start}
use Rattle.model.specs.Lent.{Lent, room_of}
use Rattle.model.specs.Lists.{All}
use Rattle.model.specs.Proper.{Proper}
use Rattle.model.specs.Sound.{Sound}
use Rattle.model.specs.Taken.{sites}
use Rattle.model.specs.declared.room.Room.{Room}
use Rattle.model.proofs.EachResidueHasAnAtom.{each_residue_has_an_atom}
use Rattle.model.proofs.ListLaws.{all_map}
use Rattle.building.specs.Holds.{records_in, Within}
use Rattle.building.specs.declared.sites.Counts.{Counts}
use Rattle.acts.specs.Acts.{Asked, rows_in, AllGoOn}
use Rattle.acts.specs.Making.{Making, going, halted, made}
use Rattle.acts.specs.Standing.{Stands, ahead, Passes}
use Rattle.acts.specs.declared.doing.Standing.{Standing}
use Rattle.readings.specs.Closing.{halted_by, halted_early, PeopledIn, Leaves, Closes}
use Rattle.readings.specs.Ends.{Admitted}
use Rattle.readings.specs.Reading.{largest, at_end, reading_of, answer_of, left_by}
use Rattle.readings.proofs.EndOfReading.{early, left_alike}
use Rattle.readings.proofs.ReadByTheRows.{model_of_rows}
use Rattle.readings.proofs.SlicesOfOneSize.{same_room, same_holding, room_within}

module _ (text : List ℕ) (acts : List Asked) (sound : Admitted text → AllGoOn acts → All Sound (sites (rows_in acts))) where
  -- ---- each residue has an atom
  made_peopled : (room : Room) → Admitted text → (m : Making) → made room start acts ≡ m → PeopledIn m
  made_peopled room a (going st) e =
      let by = model_of_rows room text acts st (record { admitted = a; done = e }) in
      let proper = all_map Sound Proper (λ s h. h.proper) (sites (rows_in acts)) (sound a by.goes) in
      subst Peopled (sym by.state) (each_residue_has_an_atom (rows_in acts) proper)
  made_peopled room a (halted why) e = tt

  peopled : (room : Room) → PeopledIn (ahead (halted_early text) (made room start acts))
  unfolding halted_early
  peopled room = go (ltb largest (length text)) refl (outside_of text) refl
    where
      go : (b : Bool) → ltb largest (length text) ≡ b → (o : Option Outside) → outside_of text ≡ o → PeopledIn (ahead (cond b (Err (at 0 TextTooLong)) (halted_by o)) (made room start acts))
      go true b o e = tt
      go false b None e = made_peopled room (record { short = ltb-false largest (length text) b; inside = e }) (made room start acts) refl
      go false b (Some o) e = tt

  -- ---- the whole
  module _ (l between after : Lent) (room : Room) (halt : Result (Unit {0}) Refusal) (s : Standing) (r : Result Counts Refusal) where
    pub read_whole : room ≡ room_of l → halt ≡ halted_early text → Passes (records_in l) room (ahead halt (made room start acts)) s (records_in between)
        → length between.residue_codes ≡ length l.residue_codes → length between.residue_positions ≡ length l.residue_positions
        → Closes between s r after
        → Leaves l (reading_of (room_of l) text acts) r after
    read_whole room-is halt-is passes codes places closes =
        let same = same_room l between passes.lengths codes places in
        let here : room ≡ room_of between = room-is ∙ sym same in
        let target = ahead (halted_early text) (made (room_of between) start acts) in
        let within = subst (λ (x : Room). Within x (records_in l)) (sym room-is) (room_within l) in
        let stands : Stands (room_of between) (records_in between) s target
        = subst (λ (x : Room). Stands x (records_in between) s (ahead (halted_early text) (made x start acts))) here
        (subst (λ (h : Result (Unit {0}) Refusal). Stands room (records_in between) s (ahead h (made room start acts))) halt-is (passes.stands within)) in
        let end : at_end target ≡ reading_of (room_of l) text acts = early (room_of between) text acts ∙ ap (λ (x : Room). reading_of x text acts) same in
        let answer = closes target stands (peopled (room_of between)) in (
          answer.0 ∙ ap answer_of end,
          answer.1 ∙ ap (left_by between) end ∙ left_alike l between (same_holding l between passes.lengths codes places) (reading_of (room_of l) text acts),
        )
