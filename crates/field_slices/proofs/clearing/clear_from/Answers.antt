-- Each turn clears one entry and leaves the clearing from one further on; past the end nothing is left to clear.
use Rattle.std.proofs.Common.{arith}
use Rattle.field_slices.proofs.ClearingLaws.{clearing_on, clearing_ends}
use Rattle.field_slices.proofs.clearing.clear_from.Goals as goal

pub loop-i-preserved : goal.loop-i-preserved
loop-i-preserved g c = clearing_on _ c.loop-i.invariant (omega arith)

pub returns : goal.returns
returns g c = clearing_ends _ c.loop-i.invariant (omega arith)
