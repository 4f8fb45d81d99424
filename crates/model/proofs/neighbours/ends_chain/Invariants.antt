use mathlib.Core.Path.{◌≡◌}
use lib.ListN.{take, drop}
use Rattle.field_slices.specs.Places.{pairs}
use Rattle.model.specs.Neighbours.{ends_chain}
use Rattle.model.proofs.neighbours.ends_chain.Given as goal

abbrev pub invariant-loop-i : goal.invariant-loop-i
invariant-loop-i l = ends_chain l.place (drop l.from (take l.n (pairs l.keys l.codes))) ≡ ends_chain l.place (drop l.i (take l.n (pairs l.keys l.codes)))
