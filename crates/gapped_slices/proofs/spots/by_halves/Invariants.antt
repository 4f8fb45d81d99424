-- What is looked for belongs between lo and hi, which come nearer to each other.
use Rattle.std.proofs.Common.{◌-◌, ◌≤◌}
use Rattle.gapped_slices.specs.Ranks.{OfRanks, Closes}
use Rattle.gapped_slices.proofs.spots.by_halves.Given as goal

abbrev pub invariant-loop-lo : goal.invariant-loop-lo
invariant-loop-lo g l = ((l.lo ≤ l.hi) × (l.hi ≤ l.to)) × OfRanks (goal.F-post g l.rank) l.to (λ by. Closes by l.to l.lo l.hi)

abbrev pub decreases-loop-lo : goal.decreases-loop-lo
decreases-loop-lo g l = l.hi - l.lo
