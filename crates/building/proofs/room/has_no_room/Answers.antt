-- What is not new needs no room.
use mathlib.Core.Path.{sym, ap}
use mathlib.Core.Bool.{Bool, ◌&&◌}
use lib.Dec.{leb}
use Rattle.building.proofs.room.has_no_room.Goals as goal

pub returns-then-new : goal.returns-then-new
returns-then-new c = ap (λ (t : Bool). t && leb c.args.room c.args.many) (sym c.if-new.true)
