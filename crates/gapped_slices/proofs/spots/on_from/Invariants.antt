-- All before i are less.
use Rattle.gapped_slices.specs.Ranks.{OfRanks, FirstLess}
use Rattle.gapped_slices.proofs.spots.on_from.Given as goal

abbrev pub invariant-loop-i : goal.invariant-loop-i
invariant-loop-i g l = OfRanks (goal.F-post g l.rank) l.many (λ by. FirstLess by l.many l.i)
