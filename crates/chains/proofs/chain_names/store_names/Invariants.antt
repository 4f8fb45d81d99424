-- The first i records have their names, and the others stand.
use Rattle.std.proofs.Common.{◌≡◌}
use Rattle.chains.specs.Names.{named}
use Rattle.chains.proofs.chain_names.store_names.Given as goal

abbrev pub invariant-loop-i : goal.invariant-loop-i
invariant-loop-i l = l.chains ≡ named l.initial.chains l.names l.i
