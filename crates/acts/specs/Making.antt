-- What acts make of the model, one after the other, in a room: up to the first that refuses or lacks the room.
use Rattle.std.specs.Prelude.{List, [], ◌∷◌, ℕ, Option, Some, None}
use Rattle.refusals.specs.Reasons.{at}
use Rattle.refusals.specs.declared.details.RecordKind.{RecordKind}
use Rattle.refusals.specs.declared.reasons.Reason.TheVariants.{NoRoom}
use Rattle.refusals.specs.declared.reasons.Refusal.{Refusal}
use Rattle.model.specs.Fold.{State, step}
use Rattle.model.specs.Room.{lacking}
use Rattle.model.specs.Taken.{skipped, site}
use Rattle.model.specs.declared.room.Room.{Room}
use Rattle.acts.specs.declared.act.Act.{Act}
use Rattle.acts.specs.declared.act.Act.TheVariants.{Pass, Skip, Keep, Refuse}
use Rattle.acts.specs.Acts.{Asked}

pub data Making : Type 0 where
  going : State → Making
  halted : Refusal → Making

-- ---- one act

abbrev pub within : ℕ → Option RecordKind → Making → Making
within number None others = others
within number (Some kind) others = halted (at number (NoRoom kind))

abbrev pub done_at : Room → State → ℕ → Act → Making
done_at room st number Pass = going st
done_at room st number Skip = going (step st skipped)
done_at room st number (Keep s) = within number (lacking room st (site s)) (going (step st (site s)))
done_at room st number (Refuse why) = halted (at number why)

abbrev pub done : Room → State → Asked → Making
done room st a = done_at room st a.line a.act

-- ---- all of them

abbrev pub and_then : Making → (State → Making) → Making
and_then (going st) others = others st
and_then (halted why) others = halted why

unfoldable pub made : Room → State → List Asked → Making
made room st [] = going st
made room st (a ∷ acts) = and_then (done room st a) (λ s. made room s acts)
