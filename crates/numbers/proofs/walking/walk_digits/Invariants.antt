use Rattle.numbers.proofs.WalkLaws.{Walking}
use Rattle.numbers.proofs.walking.walk_digits.Given as goal

abbrev pub invariant-loop-i : goal.invariant-loop-i
invariant-loop-i l = Walking l.s l.from l.n l.number l.i
