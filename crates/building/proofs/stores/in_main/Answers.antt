-- Main is the area with one more, the pocket stays, and nothing is promised of the credit.
use mathlib.Core.Path.{refl}
use Rattle.building.proofs.stores.in_main.Goals as goal

pub returns : goal.returns
returns c = λ countable within. record { main = c.with_entry.ensures countable within; pocket = refl }
