-- The pocket is the area with one more, main stays, and nothing is promised of the credit.
use mathlib.Core.Path.{refl}
use Rattle.building.proofs.stores.in_pocket.Goals as goal

pub returns : goal.returns
returns c = λ countable within. record { main = refl; pocket = c.with_entry.ensures countable within }
