-- What is read is well formed: it is built of the rows of a text in the domain, and these are sound.
use mathlib.Core.Path.{◌≡◌}
use mathlib.Core.Bool.{true}
use mathlib.Core.List.{List}
use Prim.Native.Nat.{ℕ}
use Rattle.rows.specs.declared.settings.Settings.{Settings}
use Rattle.model.specs.Records.{Model}
use Rattle.model.specs.WellFormed.{well_formed}
use Rattle.model.specs.declared.room.Room.{Room}
use Rattle.building.specs.declared.sites.Counts.{Counts}
use Rattle.readings.specs.Reading.{read}
use Rattle.readings.proofs.ReadByTheRows.{model_of_rows}
use Rattle.readings.proofs.ReadIsWellFormed as acted
use Rattle.mmcif.specs.Acts.{acts_of}
use Rattle.reader.specs.Reading.{read_of}
use Rattle.reader.proofs.RefusalsAreExact.{otherwise_read}
use Rattle.reader.proofs.RowsAreSound.{acts_are_sound}

-- ---- the theorem
pub read_is_well_formed : (settings : Settings) (room : Room) (text : List ℕ) (m : Model) (counts : Counts) → read_of settings room text ≡ read m counts → well_formed m ≡ true
read_is_well_formed settings room text m counts e =
    let acts = acts_of settings text in
    let into = (otherwise_read settings room text m counts).0 e in
    acted.read_is_well_formed room text acts (acts_are_sound settings text into.1.admitted (model_of_rows room text acts into.0 into.1).goes) m counts e
