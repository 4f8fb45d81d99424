-- Nothing stands from an index past the end on; else all that is left.
use Rattle.tokens.proofs.PartLaws.{rest_none, rest_some}
use Rattle.tokens.proofs.split.rest_of.Goals as goal

pub returns-then-end-start : goal.returns-then-end-start
returns-then-end-start c = rest_none _ _ c.if-end-start.true

pub returns : goal.returns
returns c = rest_some _ _ c.if-end-start.false
