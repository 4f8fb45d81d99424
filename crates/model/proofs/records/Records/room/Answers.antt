-- The lengths of the slices give it.
use Rattle.model.specs.Lent.{room_of}
use Rattle.model.proofs.records.Records.room.Goals as goal

pub returns : goal.returns
unfolding room_of
returns c = c.room_by.ensures
