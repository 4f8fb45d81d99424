-- The one at i, if there is one, is greater.
use Rattle.std.proofs.Common.{◌≤◌, ◌<◌, ◌≡◌, Greater}
use Rattle.gapped_slices.specs.Ranks.{OfRanks}
use Rattle.gapped_slices.proofs.spots.back_from.Given as goal

abbrev pub invariant-loop-i : goal.invariant-loop-i
invariant-loop-i g l = ((l.stop ≤ l.i) × (l.i ≤ l.front)) × OfRanks (goal.F-post g l.rank) l.front (λ by. l.i < l.front → by l.i ≡ Greater)
