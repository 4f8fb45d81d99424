-- What is read is well formed, where the sites that are kept are sound.
use mathlib.Core.Path.{◌≡◌}
use mathlib.Core.Bool.{true}
use mathlib.Core.List.{List}
use Prim.Native.Nat.{ℕ}
use Rattle.model.specs.Lists.{All}
use Rattle.model.specs.Records.{Model}
use Rattle.model.specs.Sound.{Sound}
use Rattle.model.specs.Taken.{sites}
use Rattle.model.specs.WellFormed.{well_formed}
use Rattle.model.specs.declared.room.Room.{Room}
use Rattle.model.proofs.BuiltIsWellFormed.{built_is_well_formed}
use Rattle.building.specs.declared.sites.Counts.{Counts}
use Rattle.acts.specs.Acts.{Asked, rows_in}
use Rattle.readings.specs.Reading.{read, reading_of}
use Rattle.readings.proofs.ReadByTheRows.{read_exactly}

pub read_is_well_formed : (room : Room) (text : List ℕ) (acts : List Asked) → All Sound (sites (rows_in acts)) → (m : Model) (counts : Counts) → reading_of room text acts ≡ read m counts → well_formed m ≡ true
read_is_well_formed room text acts sound m counts e = built_is_well_formed (rows_in acts) sound m ((read_exactly room text acts m counts).0 e).2
