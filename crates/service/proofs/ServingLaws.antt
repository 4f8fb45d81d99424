-- What is served by the answers of the reading and of the writing: each of their cases is a case of the definition.
use mathlib.Core.Path.{◌≡◌, refl, sym, ap, ◌∙◌, subst}
use mathlib.Core.Bool.{true}
use mathlib.Core.List.{List}
use Prim.Native.Nat.{ℕ}
use native.Mathlib.Omega.{arith}
use lib.ListN.{length}
use Rattle.std.specs.Prelude.{Result, Ok, Err}
use Rattle.refusals.specs.Reasons.{at}
use Rattle.refusals.specs.declared.reasons.Reason.{Reason}
use Rattle.refusals.specs.declared.reasons.Refusal.{Refusal}
use Rattle.rows.specs.declared.settings.Settings.{Settings}
use Rattle.building.specs.Holds.{sizes_of}
use Rattle.building.specs.declared.sites.Counts.{Counts}
use Rattle.model.specs.Lent.{Lent, room_of, holding, empty_model}
use Rattle.model.specs.Records.{Model}
use Rattle.model.specs.WellFormed.{well_formed_in}
use Rattle.model.specs.declared.room.Room.{Room}
use Rattle.results.specs.declared.answers.Served.{Served}
use Rattle.readings.specs.Reading as readings
use Rattle.readings.specs.Reading.{Reading, read}
use Rattle.reader.specs.Reading.{read_of}
use Rattle.writer.specs.Writing as writer
use Rattle.writer.specs.Writing.{Writing, written, writing_of, write_of, Wrote}
use Rattle.service.specs.Serving.{by_writing, by_reading, serve_of, answer_of, left_in, written_to, Serves, written_answer, left_written, WritesOut}
use Rattle.service.proofs.HeldAgain.{held_again}
use Rattle.service.proofs.WrittenAsRead.{within, well_counted, written_as_read}

-- ---- the reading: what is read is well formed where it stands
pub read_well : (settings : Settings) (l : Lent) (text : List ℕ) (counts : Counts) (after : Lent) → let reading = read_of settings (room_of l) text in
    ◌≡◌ {A = Result Counts Refusal} (Ok counts) (readings.answer_of reading) → after ≡ readings.left_by l reading → well_formed_in after (sizes_of counts) ≡ true
read_well settings l text counts after = go (read_of settings (room_of l) text) refl
  where
    go : (r : Reading) → read_of settings (room_of l) text ≡ r → ◌≡◌ {A = Result Counts Refusal} (Ok counts) (readings.answer_of r) → after ≡ readings.left_by l r → well_formed_in after (sizes_of counts) ≡ true
    go (read m others) e a f =
        let same : others ≡ counts = cc in
        ap (λ (x : Lent). well_formed_in x (sizes_of counts)) f ∙ well_counted settings l text m counts (e ∙ ap (read m) same)
    go (readings.refused why) e a f = let z : ◌≡◌ {A = ℕ} 0 1 = cc in absurd (omega arith)

-- ---- the writing
module _ (l : Lent) (counts : Counts) (out : List ℕ) where
  abbrev writing : Writing
  writing = write_of l (sizes_of counts) (length out)

  writes_as : {answer : Result Served Refusal} {after : Lent} {bytes : List ℕ} (w : Writing) → writing ≡ w
      → answer ≡ written_answer counts w → after ≡ left_written l w → bytes ≡ writer.left_by out w → WritesOut l counts out answer after bytes
  writes_as w e a f b = record { answered = a ∙ sym (ap (written_answer counts) e); left = f ∙ sym (ap (left_written l) e); written = b ∙ sym (ap (writer.left_by out) e) }

  module _ (sizes : Room) (counted : sizes ≡ sizes_of counts) (r : Result ℕ Reason) (bytes : List ℕ) (given : Wrote out (write_of l sizes (length out)) r bytes) where
    wrote : Wrote out writing r bytes
    wrote = subst (λ (x : Room). Wrote out (write_of l x (length out)) r bytes) counted given

    pub put_out : (n : ℕ) → r ≡ Ok n → WritesOut l counts out (Ok (record { written = n; counts = counts })) l bytes
    put_out n e = go writing refl wrote.answered wrote.left
      where
        go : (w : Writing) → writing ≡ w → r ≡ writer.answer_of w → bytes ≡ writer.left_by out w → WritesOut l counts out (Ok (record { written = n; counts = counts })) l bytes
        go (written text) w a b = let n-is : n ≡ length text = cc in writes_as (written text) w (ap (λ (k : ℕ). Ok (record { written = k; counts = counts })) n-is) refl b
        go (writer.refused why) w a b = let z : ◌≡◌ {A = ℕ} 0 1 = cc in absurd (omega arith)

    pub put_nothing : (why : Reason) (after : Lent) → r ≡ Err why → after ≡ holding l empty_model
        → WritesOut l counts out (Err (at 0 why)) after bytes
    put_nothing why after e cleared = go writing refl wrote.answered wrote.left
      where
        go : (w : Writing) → writing ≡ w → r ≡ writer.answer_of w → bytes ≡ writer.left_by out w → WritesOut l counts out (Err (at 0 why)) after bytes
        go (written text) w a b = let z : ◌≡◌ {A = ℕ} 0 1 = cc in absurd (omega arith)
        go (writer.refused other) w a b =
            let same : why ≡ other = cc in
            writes_as (writer.refused other) w (ap (λ (x : Reason). Err (at 0 x)) same) cleared b

-- ---- the whole
module _ (settings : Settings) (l : Lent) (text out : List ℕ) where
  abbrev reading : Reading
  reading = read_of settings (room_of l) text

  serves_as : {answer : Result Served Refusal} {after : Lent} {bytes : List ℕ} (r : Reading) → reading ≡ r → let s = by_reading (length out) r in
      answer ≡ answer_of s → after ≡ left_in l s → bytes ≡ written_to out s → Serves settings l text out answer after bytes
  unfolding serve_of
  serves_as r e a f b =
      let s : serve_of settings (room_of l) (length out) text ≡ by_reading (length out) r = ap (by_reading (length out)) e in
      record { answered = a ∙ sym (ap answer_of s); left = f ∙ sym (ap (left_in l) s); written = b ∙ sym (ap (written_to out) s) }

  -- a text that is not read
  pub serve_unread : (why : Refusal) (after : Lent) → ◌≡◌ {A = Result Counts Refusal} (Err why) (readings.answer_of reading) → after ≡ readings.left_by l reading
      → Serves settings l text out (Err why) after out
  serve_unread why after = go reading refl
    where
      go : (r : Reading) → reading ≡ r → ◌≡◌ {A = Result Counts Refusal} (Err why) (readings.answer_of r) → after ≡ readings.left_by l r → Serves settings l text out (Err why) after out
      go (read m counts) e a f = let z : ◌≡◌ {A = ℕ} 0 1 = cc in absurd (omega arith)
      go (readings.refused other) e a f =
          let same : why ≡ other = cc in
          serves_as (readings.refused other) e (ap (λ (x : Refusal). Err x) same) f refl

  -- and one that is: what is written is what was read
  pub serve_read : (counts : Counts) (between after : Lent) (answer : Result Served Refusal) (bytes : List ℕ)
      → ◌≡◌ {A = Result Counts Refusal} (Ok counts) (readings.answer_of reading) → between ≡ readings.left_by l reading
      → WritesOut between counts out answer after bytes → Serves settings l text out answer after bytes
  serve_read counts between after answer bytes a f writes = go reading refl a f
    where
      answered_as : (m : Model) (w : Writing) → written_answer counts w ≡ answer_of (by_writing m counts w)
      answered_as m (written text) = refl
      answered_as m (writer.refused why) = refl

      left_as : (m : Model) → reading ≡ read m counts → between ≡ holding l m → (w : Writing) → left_written between w ≡ left_in l (by_writing m counts w)
      left_as m e f (written text) = f
      left_as m e f (writer.refused why) =
          let room = within settings l text m counts e in
          ap (λ (x : Lent). holding x empty_model) f ∙ held_again l m room.0 room.1 room.2 empty_model

      written_as : (m : Model) (w : Writing) → writer.left_by out w ≡ written_to out (by_writing m counts w)
      written_as m (written text) = refl
      written_as m (writer.refused why) = refl

      go : (r : Reading) → reading ≡ r → ◌≡◌ {A = Result Counts Refusal} (Ok counts) (readings.answer_of r) → between ≡ readings.left_by l r → Serves settings l text out answer after bytes
      go (read m others) e a f =
          let same : others ≡ counts = cc in
          let e : reading ≡ read m counts = e ∙ ap (read m) same in
          let w = ap (λ (x : Lent). write_of x (sizes_of counts) (length out)) f ∙ written_as_read settings l text m counts e out in
          let size = length out in
          serves_as (read m counts) e
          (writes.answered ∙ ap (written_answer counts) w ∙ answered_as m (writing_of size m))
          (writes.left ∙ ap (left_written between) w ∙ left_as m e f (writing_of size m))
          (writes.written ∙ ap (writer.left_by out) w ∙ written_as m (writing_of size m))
      go (readings.refused why) e a f = let z : ◌≡◌ {A = ℕ} 0 1 = cc in absurd (omega arith)
