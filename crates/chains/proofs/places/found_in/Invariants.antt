-- None of the records that were looked at has the name.
use Rattle.std.proofs.Common.{take}
use Rattle.chains.specs.Names.{names_in}
use Rattle.chains.proofs.PlaceLaws.{Missed}
use Rattle.chains.proofs.places.found_in.Given as goal

abbrev pub invariant-loop-k : goal.invariant-loop-k
invariant-loop-k l = Missed (take l.many (names_in l.chains)) l.name l.last l.k
