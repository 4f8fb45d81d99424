-- The test is that of `within_reach`; where it passes no number was capped, so that the value is of the decimal's own two numbers.
use mathlib.Core.Path.{sym, ap, ◌∙◌}
use Prim.Native.Nat.{ℕ, ◌+◌, ◌<◌}
use native.Mathlib.Omega.{arith}
use lib.ListN.{length}
use borrow.Author.Rules.{rules}
use Rattle.numbers.specs.Reading.{value_of}
use Rattle.numbers.proofs.ReadingLaws.{read_long, read_few, together_below, together_uncapped}
use Rattle.numbers.proofs.reading.read_decimal.Goals as goal
use Rattle.numbers.proofs.reading.read_decimal.Goals.{then-whole-gt-MOST_DIGITS-via-then-whole-gt-MOST_DIGITS, then-whole-gt-MOST_DIGITS-via-else-whole-gt-MOST_DIGITS+then-whole-places}

pub returns-then-whole-gt-MOST_DIGITS : goal.returns-then-whole-gt-MOST_DIGITS
returns-then-whole-gt-MOST_DIGITS c =
    let whole = c.args.whole.now in
    let places = c.args.places.now in
    let many : 15 < length whole + length places = elim c.then-whole-gt-MOST_DIGITS.branch [
      | then-whole-gt-MOST_DIGITS-via-then-whole-gt-MOST_DIGITS w ↦ omega arith
      | then-whole-gt-MOST_DIGITS-via-else-whole-gt-MOST_DIGITS+then-whole-places w ↦ omega arith
    ] in
    sym (read_long _ whole places many)

pub valued-requires : goal.valued-requires
valued-requires c =
    let whole = c.args.whole.now in
    let places = c.args.places.now in
    (rw (together_uncapped whole places (omega arith) c.number_from.result c.number_from-n.result c.number_from.ensures c.number_from-n.ensures) (together_below whole places (omega arith)), search rules)

pub returns : goal.returns
returns c =
    let negative = c.args.negative in
    let whole = c.args.whole.now in
    let places = c.args.places.now in
    c.valued.ensures
    ∙ ap (λ (n : ℕ). value_of negative n (length places)) (together_uncapped whole places (omega arith) c.number_from.result c.number_from-n.result c.number_from.ensures c.number_from-n.ensures)
    ∙ sym (read_few negative whole places (omega arith))
