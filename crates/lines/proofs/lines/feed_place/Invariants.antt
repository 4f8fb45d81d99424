use Rattle.lines.specs.Lines.{NoFeedBefore}
use Rattle.lines.proofs.lines.feed_place.Given as goal

abbrev pub invariant-loop-i : goal.invariant-loop-i
invariant-loop-i l = NoFeedBefore l.text l.i
