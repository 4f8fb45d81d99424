-- The first i names are taken, in order, and the others stand.
use Rattle.std.proofs.Common.{◌≡◌}
use Rattle.chains.proofs.NameLaws.{taking}
use Rattle.chains.proofs.chain_names.take_names.Given as goal

abbrev pub invariant-loop-i : goal.invariant-loop-i
invariant-loop-i l = l.names ≡ taking l.chains l.initial.names l.i
