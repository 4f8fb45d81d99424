-- Each turn passes a line at least, so the index grows.
use Prim.Native.Nat.{◌-◌, ◌≤◌}
use lib.ListN.{length}
use Rattle.samples.proofs.tables.show_table.Given as goal

abbrev pub invariant-loop-at : goal.invariant-loop-at
invariant-loop-at g l = l.at ≤ length l.table

abbrev pub decreases-loop-at : goal.decreases-loop-at
decreases-loop-at g l = length l.table - l.at
