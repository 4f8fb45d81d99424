-- The records have the sizes that document 01 gives, and the service in them is the one in that room.
use mathlib.Core.Path.{refl}
use Rattle.service.proofs.OwnRoom.{own_room_lem, own_served}
use Rattle.service.proofs.own.serve_own.Goals as goal

pub returns : goal.returns
returns c = own_served _ _ (own_room_lem _ refl refl refl refl refl refl refl refl refl refl refl) c.serve.ensures.serves
