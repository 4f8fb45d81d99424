-- The code tests what the promise tests.
use borrow.Author.Tests.{eq-eqb, ne_eqb}
use Rattle.tokens.proofs.tokenize.put.Goals as goal

pub returns-then-left-eq0 : goal.returns-then-left-eq0
returns-then-left-eq0 c = rw (eq-eqb _ _ c.if-left-eq0.true) c.store.ensures

pub returns-else-left-eq0 : goal.returns-else-left-eq0
returns-else-left-eq0 c = rw (ne_eqb _ _ c.if-left-eq0.false)
