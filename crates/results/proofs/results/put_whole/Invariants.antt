use Rattle.results.proofs.ResultLaws.{Putting}
use Rattle.results.proofs.results.put_whole.Given as goal

abbrev pub invariant-loop-k : goal.invariant-loop-k
invariant-loop-k l = Putting l.n-items l.res l.k
