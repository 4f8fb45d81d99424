-- The rows are read to their end, into a state, exactly where the rules say that state of the rows and it fits the room.
use mathlib.Core.Path.{◌≡◌, sym, ap, ◌∙◌, subst}
use mathlib.Core.Logic.{◌↔◌}
use mathlib.Core.List.{List}
use Rattle.model.specs.Fold.{State}
use Rattle.model.specs.Lists.{All}
use Rattle.model.specs.Proper.{Proper}
use Rattle.model.specs.declared.room.Room.{Room}
use Rattle.model.specs.Room.{Fits, whole, read_within}
use Rattle.model.specs.Rules.{Ruled}
use Rattle.model.specs.Taken.{Taken, sites}
use Rattle.model.proofs.FoldKeepsRules.{fold_keeps_rules}
use Rattle.model.proofs.RoomIsForTheEnd.{read_to_the_end, the_end_fits}
use Rattle.model.proofs.RulesDecide.{ruled_is_model}

-- ---- the theorem
pub read_by_the_rules : (room : Room) (l : List Taken) (st : State) → All Proper (sites l) → (read_within room l ≡ whole st) ↔ (Ruled l st × Fits room st)
read_by_the_rules room l st p = (read, readable)
  where
    read : read_within room l ≡ whole st → Ruled l st × Fits room st
    read e = let f = the_end_fits room l st e in (subst (Ruled l) (sym f.0) (fold_keeps_rules l p), f.1)

    readable : Ruled l st × Fits room st → read_within room l ≡ whole st
    readable (r, f) = let e = ruled_is_model l st p r in read_to_the_end room l (subst (Fits room) e f) ∙ ap whole (sym e)
