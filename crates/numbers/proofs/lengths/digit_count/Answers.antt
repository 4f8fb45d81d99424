-- The number lies between two powers of ten that follow one another; below ten, and where it is 0, it has one digit.
use mathlib.Core.Path.{sym, ◌∙◌}
use native.Mathlib.Nat.{pow-suc}
use native.Mathlib.Numerals.{add-one}
use native.Mathlib.Omega.{arith}
use Rattle.numbers.specs.Printing.{digit_count}
use Rattle.numbers.proofs.PrintingLaws.{count_end, count_is}
use Rattle.numbers.proofs.lengths.digit_count.Goals as goal

pub returns-in-Some : goal.returns-in-Some
returns-in-Some c =
    let power = c.in-Some.power in
    let e = c.in-Some.ensures in
    add-one power ∙ count_is c.args.n power (omega (arith, e.bound)) e.power_le (rw pow-suc (omega (arith, e.next_power_gt)))

pub returns-in-None : goal.returns-in-None
unfolding digit_count
returns-in-None c = sym (count_end 19 _ (omega (arith, c.in-None.ensures.none)))
