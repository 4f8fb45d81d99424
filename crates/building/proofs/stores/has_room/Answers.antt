-- The room is what is left of the area's end without its start.
use mathlib.Core.Path.{ap}
use lib.Dec.{ltb}
use Rattle.building.proofs.stores.has_room.Goals as goal

pub returns : goal.returns
returns c = ap (ltb c.args.n) c.saturating_sub.ensures
