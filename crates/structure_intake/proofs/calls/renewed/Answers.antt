-- Each answer is the one that the definition's test picks.
use borrow.Author.Tests.{ne_eqb}
use Rattle.structure_intake.proofs.calls.renewed.Goals as goal

pub returns-then-result_size-eq28 : goal.returns-then-result_size-eq28
returns-then-result_size-eq28 c = rw c.if-result_size-eq28.true

pub returns : goal.returns
returns c = rw (ne_eqb c.args.result_size 28 c.if-result_size-eq28.false)
