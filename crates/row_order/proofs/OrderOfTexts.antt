-- Demand 3 over texts: their acts differ in that order only, so that what holds of acts in another order holds of the texts.
use mathlib.Core.Path.{◌≡◌, sym, ap, ◌∙◌, subst}
use mathlib.Core.Logic.{◌↔◌}
use mathlib.Core.List.Permᴰ
use mathlib.Core.List.{List}
use Prim.Native.Nat.{ℕ}
use Rattle.ascii.specs.Bytes.{is_text_byte}
use Rattle.ascii.specs.Lists.{every}
use Rattle.lines.specs.Lines.{lines_of}
use Rattle.lines.proofs.LinesAreText.{lines_are_text}
use Rattle.lines.proofs.NoneOutside.{none_outside, in_domain_lem}
use Rattle.rows.specs.declared.settings.Settings.{Settings}
use Rattle.line_states.specs.Heads.{start_heads}
use Rattle.model.specs.Fold.{State, model_of}
use Rattle.model.specs.declared.room.Room.{Room}
use Rattle.readings.specs.Ends.{Admitted, AllForThemselves, ToTheEnd}
use Rattle.readings.proofs.OrderOfActs.{same_state, order_of_acts}
use Rattle.readings.proofs.ReadByTheRows.{model_of_rows}
use Rattle.readings.proofs.RefusalsAreExact.{into_a_state}
use Rattle.readings.proofs.ReorderedLaws.{every_reordered}
use Rattle.mmcif.specs.Acts.{acts_of}
use Rattle.reader.specs.Reading.{read_of}
use Rattle.reader.proofs.LinesEarn.{acts_for_themselves}
use Rattle.reader.proofs.RowsAreSound.{acts_are_sound}
use Rattle.row_order.specs.Ends.{ReadAlike}
use Rattle.row_order.specs.Order.{DifferInOrder}
use Rattle.row_order.proofs.ActsOfLoop.{rows_are, other_rows_are, acts_differ}
use Rattle.row_order.proofs.DomainByLines.{domain_by_lines}
use Rattle.row_order.proofs.EitherWay.{either_way}

module _ (settings : Settings) (t u : List ℕ) (d : DifferInOrder settings t u) where
  -- ---- the other is in the domain, since it has the same lines
  same_lines_text : every (every is_text_byte) (lines_of t) ≡ every (every is_text_byte) (lines_of u)
  same_lines_text =
      ap (every (every is_text_byte)) d.texts.one
      ∙ every_reordered (every is_text_byte) (Permᴰ.append_left d.texts.before (Permᴰ.append_right d.texts.after d.texts.order))
      ∙ ap (every (every is_text_byte)) (sym d.texts.other)

  other_admitted : Admitted t → Admitted u
  other_admitted a = record {
    short = d.texts.other_size;
    inside = none_outside u (domain_by_lines u (sym same_lines_text ∙ lines_are_text t (in_domain_lem t a.inside)));
  }

-- ---- the theorem
pub order_of_texts : (settings : Settings) (t u : List ℕ) → DifferInOrder settings t u → (room : Room) → ToTheEnd (read_of settings room t) → ReadAlike settings room t u
order_of_texts settings t u d room end =
    let a = acts_of settings t in
    let b = acts_of settings u in
    let so : AllForThemselves a = acts_for_themselves settings 1 start_heads (lines_of t) in
    let into = into_a_state room t a so end in
    let goes = (model_of_rows room t a into.0 into.1).goes in
    let differ = acts_differ settings t u d goes in
    let sound = acts_are_sound settings t into.1.admitted goes in
    let same = order_of_acts a b differ sound room t u (other_admitted settings t u d into.1.admitted) so end in
    let model : model_of _ ≡ model_of _
    = ap model_of (sym (rows_are settings t u d.texts goes)) ∙ same_state a b differ sound ∙ ap model_of (other_rows_are settings t u d.texts goes) in
    record { end = subst ToTheEnd same end; reading = same; residues = ap (λ (s : State). s.residues) model }

-- "if one is read to its end, so is the other"
pub if_one_so_the_other : (settings : Settings) (t u : List ℕ) → DifferInOrder settings t u → (room : Room) → ToTheEnd (read_of settings room t) ↔ ToTheEnd (read_of settings room u)
if_one_so_the_other settings t u d room = (λ end. (order_of_texts settings t u d room end).end, λ end. (order_of_texts settings u t (either_way settings t u d) room end).end)
