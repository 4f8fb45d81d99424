-- A printable number was put, or had no room; the place after it is told by that.
use mathlib.Core.Path.{refl, ap, ◌∙◌}
use Rattle.std.specs.Prelude.{Ok, Err}
use Rattle.row_texts.specs.Emitted.{place_after}
use Rattle.row_texts.specs.Fields.{coordinate_text}
use Rattle.row_texts.proofs.EmittedLaws.{placed_emits}
use Rattle.row_texts.proofs.FieldLaws.{within_reach_lem, coordinate_put}
use Rattle.row_texts.proofs.fields.put_coordinate.Goals as goal

pub returns-in-Ok : goal.returns-in-Ok
unfolding place_after
returns-in-Ok c near =
    let a = c.args in
    let put = coordinate_put a.x a.out.now a.at near c.write_thousandths.ensures (Ok c.in-Ok.next) c.in-Ok.is in
    placed_emits a.out.now a.at (coordinate_text a.x) put (λ h. refl)

pub returns-in-Err-NoRoom : goal.returns-in-Err-NoRoom
unfolding place_after
returns-in-Err-NoRoom c near =
    let a = c.args in
    let short = c.in-Err-NoRoom in
    let put = coordinate_put a.x a.out.now a.at near c.write_thousandths.ensures (Err short.short) (short.is ∙ ap Err short.field-0-is) in
    placed_emits a.out.now a.at (coordinate_text a.x) put c.place_on.ensures

pub returns-in-Err-BeyondReach : goal.returns-in-Err-BeyondReach
returns-in-Err-BeyondReach c near =
    let a = c.args in
    let beyond = c.in-Err-BeyondReach in
    absurd (within_reach_lem a.x a.out.now a.at near c.write_thousandths.ensures (beyond.is ∙ ap Err beyond.field-0-is))
