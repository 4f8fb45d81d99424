-- Refusal 12 is never given: what is read is well formed, so that the service has no such case, and no refusal of a reading has that number.
use mathlib.Core.Path.{◌≡◌, refl}
use mathlib.Core.Bool.{Bool, true, false, cond}
use mathlib.Core.List.{List}
use Prim.Native.Nat.{ℕ}
use native.Mathlib.Omega.{arith}
use lib.Dec.{leb}
use lib.ListN.{length}
use Rattle.std.specs.Prelude.{Option, Some, None}
use Rattle.refusals.specs.declared.reasons.Reason.TheVariants.{OutputTooShort}
use Rattle.rows.specs.declared.settings.Settings.{Settings}
use Rattle.building.specs.declared.sites.Counts.{Counts}
use Rattle.model.specs.Records.{Model}
use Rattle.model.specs.declared.room.Room.{Room}
use Rattle.results.specs.Results.{status_in}
use Rattle.readings.specs.Reading as readings
use Rattle.readings.specs.Reading.{Reading, read}
use Rattle.reader.specs.Reading.{read_of}
use Rattle.reader.proofs.RefusalsAreExact.{read_numbers}
use Rattle.writer.specs.Text.{text_of}
use Rattle.writer.specs.Unwritable.{unwritable_in}
use Rattle.writer.specs.Writing as writer
use Rattle.writer.specs.Writing.{written, written_but}
use Rattle.service.specs.Serving.{by_writing, by_reading, serve_of, answer_of}

-- ---- the theorem
pub never_12 : (settings : Settings) (room : Room) (size : ℕ) (text : List ℕ) → status_in (answer_of (serve_of settings room size text)) ≡ 12 → ⊥
unfolding serve_of
never_12 settings room size text = go (read_of settings room text) refl
  where
    by_size : (m : Model) (counts : Counts) (t : Bool) → status_in (answer_of (by_writing m counts (cond t (written (text_of m)) (writer.refused (OutputTooShort (length (text_of m))))))) ≡ 12 → ⊥
    by_size m counts true e = omega arith
    by_size m counts false e = omega arith

    by_atom : (m : Model) (counts : Counts) (id : Option ℕ) → status_in (answer_of (by_writing m counts (written_but id size m))) ≡ 12 → ⊥
    by_atom m counts None e = by_size m counts (leb (length (text_of m)) size) e
    by_atom m counts (Some id) e = omega arith

    go : (r : Reading) → read_of settings room text ≡ r → status_in (answer_of (by_reading size r)) ≡ 12 → ⊥
    go (read m counts) q e = by_atom m counts (unwritable_in m) e
    go (readings.refused why) q e = omega (arith, read_numbers settings room text why q)
