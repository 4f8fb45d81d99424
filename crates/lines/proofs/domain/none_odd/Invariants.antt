use Rattle.lines.specs.Domain.{stands_anywhere}
use Rattle.lines.proofs.MarkLaws.{MarkedTo}
use Rattle.lines.proofs.domain.none_odd.Given as goal

abbrev pub invariant-loop-b : goal.invariant-loop-b
invariant-loop-b l = MarkedTo stands_anywhere l.text l.b-index l.most
