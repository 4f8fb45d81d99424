-- The text is put into an empty buffer first, which tells its length; where that much fits, it is put.
use mathlib.Core.Path.{◌≡◌, ◌∙◌}
use mathlib.Core.Bool.{true}
use Prim.Native.Nat.{ℕ, ◌≤◌}
use native.Mathlib.Omega.{arith}
use lib.ListN.{length}
use Rattle.model.specs.Lent.{Lent, lent_in, model_in}
use Rattle.model.specs.WellFormed.{well_formed_in}
use Rattle.model.specs.declared.room.Room.{Room}
use Rattle.row_texts.specs.Emitted.{Ends}
use Rattle.writer.specs.Text.{text_of}
use Rattle.writer.proofs.TextIsShort.{text_short}
use Rattle.writer.proofs.WritingLaws.{too_short, all_written}
use Rattle.writer.proofs.writing.write_fitting.Goals as goal

-- where the text ends
told : (l : Lent) (counts : Room) → well_formed_in l counts ≡ true → {end : ℕ} → Ends 0 (text_of (model_in l counts)) end → end ≡ length (text_of (model_in l counts))
told l counts well e = e (omega (arith, text_short l counts well)) ∙ omega arith

pub returns-then-out-needed : goal.returns-then-out-needed
returns-then-out-needed c =
    let a = c.args in
    let l = lent_in a.records in
    λ well. too_short a.out.now (text_of (model_in l a.counts)) c.put_text-needed.result (told l a.counts well (c.put_text-needed.ensures well).place) c.if-out-needed.true

pub returns : goal.returns
returns c =
    let a = c.args in
    let l = lent_in a.records in
    let text = text_of (model_in l a.counts) in
    λ well.
    let e = c.put_text.ensures well in
    let h : length text ≤ length a.out.now = omega (arith, told l a.counts well (c.put_text-needed.ensures well).place, c.if-out-needed.false) in
    all_written a.out.now text c.put_text.result c.put_text.new.out h (told l a.counts well e.place) (e.bytes (omega arith))
