use Rattle.lines.specs.Lines.{is_no_feed}
use Rattle.lines.proofs.MarkLaws.{MarkedTo}
use Rattle.lines.proofs.lines.has_no_feed.Given as goal

abbrev pub invariant-loop-b : goal.invariant-loop-b
invariant-loop-b l = MarkedTo is_no_feed l.block l.b-index l.most
