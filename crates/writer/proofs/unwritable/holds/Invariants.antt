use mathlib.Core.Path.{◌≡◌}
use lib.ListN.{length}
use Rattle.names.specs.Packing.{unpacked}
use Rattle.tokens.specs.Quote.{has}
use Rattle.writer.proofs.unwritable.holds.Given as goal

abbrev pub invariant-loop-rest : goal.invariant-loop-rest
invariant-loop-rest l = has l.b (unpacked l.name) ≡ has l.b (unpacked l.rest)

abbrev pub decreases-loop-rest : goal.decreases-loop-rest
decreases-loop-rest l = length (unpacked l.rest)
