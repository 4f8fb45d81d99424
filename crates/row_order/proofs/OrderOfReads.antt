-- Demand 3 of `read` itself: what it answers, and what it leaves in the slices, go by the reading of the text and the room that they have.
use mathlib.Core.Path.{◌≡◌, refl, sym, ap, ◌∙◌, subst}
use mathlib.Core.List.{List}
use Prim.Native.Nat.{ℕ}
use Rattle.rows.specs.declared.settings.Settings.{Settings}
use Rattle.model.specs.Lent.{Lent, room_of, holding, empty_model}
use Rattle.model.specs.Records.{Model}
use Rattle.model.specs.declared.room.Room.{Room}
use Rattle.readings.specs.Ends.{ToTheEnd}
use Rattle.readings.specs.Reading.{Reading, read, refused, answer_of, left_by}
use Rattle.std.specs.Prelude.{Result}
use Rattle.refusals.specs.declared.reasons.Refusal.{Refusal}
use Rattle.building.specs.declared.sites.Counts.{Counts}
use Rattle.reader.specs.Reading.{read_of, ReadBy}
use Rattle.row_order.specs.Ends.{AnsweredAtTheEnd, HoldAlike}
use Rattle.row_order.specs.Order.{DifferInOrder}
use Rattle.row_order.proofs.OrderOfTexts.{order_of_texts}

answered : (reading : Reading) → AnsweredAtTheEnd (answer_of reading) → ToTheEnd reading
answered (read m counts) end = end
answered (refused why) end = end

model_in : Reading → Model
model_in (read m counts) = m
model_in (refused why) = empty_model

left_is : (l : Lent) (reading : Reading) → left_by l reading ≡ holding l (model_in reading)
unfolding model_in
left_is l (read m counts) = refl
left_is l (refused why) = refl

-- ---- the theorem
pub order_of_reads : (settings : Settings) (t u : List ℕ) → DifferInOrder settings t u → (l k : Lent) → room_of l ≡ room_of k
    → (r q : Result Counts Refusal) (after afterwards : Lent) → ReadBy settings l t r after → ReadBy settings k u q afterwards
    → AnsweredAtTheEnd r → (r ≡ q) × HoldAlike l after k afterwards
order_of_reads settings t u d l k room r q after afterwards one other end =
    let same : read_of settings (room_of l) t ≡ read_of settings (room_of k) u
    = (order_of_texts settings t u d (room_of l) (answered (read_of settings (room_of l) t) (subst AnsweredAtTheEnd one.0 end))).reading
    ∙ ap (λ (x : Room). read_of settings x u) room in (
      one.0 ∙ ap answer_of same ∙ sym other.0,
      record {
        model = model_in (read_of settings (room_of l) t);
        one = one.1 ∙ left_is l (read_of settings (room_of l) t);
        other = other.1 ∙ left_is k (read_of settings (room_of k) u) ∙ ap (λ (x : Reading). holding k (model_in x)) (sym same);
      },
    )
