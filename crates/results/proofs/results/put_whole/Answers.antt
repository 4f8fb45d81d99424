-- One number after the other is put behind those before it.
use Rattle.results.proofs.ResultLaws.{putting_starts, putting_on, putting_ends}
use Rattle.results.proofs.results.put_whole.Goals as goal

pub loop-k-init : goal.loop-k-init
loop-k-init c = putting_starts c.args.answer _ c.args.res.now c.numbers_of-numbers.ensures c.requires

pub loop-k-preserved : goal.loop-k-preserved
loop-k-preserved c = putting_on _ _ _ _ c.loop-k.invariant c.loop-k-test.true c.put_number.ensures

pub returns : goal.returns
returns c = putting_ends c.args.answer _ _ _ c.loop-k.invariant c.loop-k-test.false c.numbers_of-numbers.ensures
