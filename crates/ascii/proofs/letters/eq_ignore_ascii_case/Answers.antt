-- The library's test is `eq_ignore_case`.
use Rattle.ascii.proofs.LetterLaws.{alike_is}
use Rattle.ascii.proofs.letters.eq_ignore_ascii_case.Goals as goal

pub returns : goal.returns
returns c = alike_is c.args.s.now c.args.t.now _ c.eq_ignore_ascii_case.ensures.test
