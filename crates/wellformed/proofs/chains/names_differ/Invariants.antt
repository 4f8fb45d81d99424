use Rattle.std.proofs.Common.{◌≡◌, drop}
use Rattle.model.specs.WellFormed.{differ}
use Rattle.wellformed.proofs.chains.names_differ.Given as goal

abbrev pub invariant-loop-i : goal.invariant-loop-i
invariant-loop-i l = differ l.chains ≡ differ (drop l.i l.chains)
