-- Where the counts fit, the rules for the slices make the definition; and where they do not, the model is not well formed.
use mathlib.Core.Path.{◌≡◌, sym, ap, ◌∙◌}
use mathlib.Core.Bool.{Bool}
use Rattle.model.specs.declared.room.Room.{Room}
use Rattle.model.specs.Lent.{Lent, lent_in, room_of}
use Rattle.model.specs.WellFormed.{within, counts_fit}
use Rattle.wellformed.proofs.WholeModel.{within_all, not_counted, all_tested}
use Rattle.wellformed.proofs.whole.is_well_formed.Goals as goal

-- the counts are tested against the room
counted : (l : Lent) (counts room : Room) {t : Bool} → t ≡ within counts room → room ≡ room_of l → t ≡ counts_fit l counts
unfolding counts_fit
counted l counts room e f = e ∙ ap (within counts) f

pub returns-else-is_within : goal.returns-else-is_within
returns-else-is_within c =
    let a = c.args in
    c.if-is_within.false ∙ not_counted (lent_in a.records) a.counts (sym (counted (lent_in a.records) a.counts _ c.is_within.ensures c.room.ensures) ∙ c.if-is_within.false)

pub are_records_well-requires : goal.are_records_well-requires
are_records_well-requires c =
    let a = c.args in
    within_all (lent_in a.records) a.counts (sym (counted (lent_in a.records) a.counts _ c.is_within.ensures c.room.ensures) ∙ c.if-is_within.true)

pub returns-then-is_within : goal.returns-then-is_within
returns-then-is_within c =
    let a = c.args in
    c.are_records_well.ensures ∙ all_tested (lent_in a.records) a.counts (sym (counted (lent_in a.records) a.counts _ c.is_within.ensures c.room.ensures) ∙ c.if-is_within.true)
