-- What is read past the end is no number, and none is greater than that.
use mathlib.Core.Path.{ap}
use lib.Ieee.{Float, lt, of_bits}
use Rattle.building.proofs.atoms.is_less_at.Goals as goal

pub returns : goal.returns
unfolding of_bits
returns c = ap (λ (x : Float). lt x c.args.occupancy) c.entry_at.ensures
