use mathlib.Core.Path.{◌≡◌}
use Prim.Native.Nat.{◌-◌}
use lib.ListN.{length}
use Rattle.std.specs.Prelude.{None}
use Rattle.mmcif.proofs.StageLaws.{OnTheWay}
use Rattle.mmcif.proofs.stages.to_next_row.Given as goal

abbrev pub invariant-loop-now : goal.invariant-loop-now
invariant-loop-now l = OnTheWay l.text l.settings l.initial.now l.now × (l.now.waiting ≡ None)

abbrev pub decreases-loop-now : goal.decreases-loop-now
decreases-loop-now l = length l.text - l.now.at
