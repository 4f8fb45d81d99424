-- `read`: any bytes in; the model in the lent slices, or a refusal. It is what is made of what the text asks for.
use Rattle.std.specs.Prelude.{List, ℕ, Result}
use Rattle.refusals.specs.declared.reasons.Refusal.{Refusal}
use Rattle.rows.specs.declared.settings.Settings.{Settings}
use Rattle.model.specs.Lent.{Lent, room_of}
use Rattle.model.specs.declared.room.Room.{Room}
use Rattle.building.specs.declared.sites.Counts.{Counts}
use Rattle.readings.specs.Closing.{Leaves}
use Rattle.readings.specs.Reading.{Reading, reading_of}
use Rattle.mmcif.specs.Acts.{acts_of}

abbrev pub read_of : Settings → Room → List ℕ → Reading
read_of settings room text = reading_of room text (acts_of settings text)

-- ---- the promise of `read`

abbrev pub ReadBy : Settings → Lent → List ℕ → Result Counts Refusal → Lent → Type 0
ReadBy settings l text r after = Leaves l (read_of settings (room_of l) text) r after
