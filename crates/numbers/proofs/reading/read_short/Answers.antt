-- What the walk passes is a decimal, and its number and places are the decimal's; anything else is read by the grammar.
use mathlib.Core.Path.{◌∙◌}
use native.Mathlib.Nat.{lt_of_lt_of_le, le_trans}
use native.Mathlib.Omega.{arith}
use lib.Dec.{lit<}
use Rattle.numbers.proofs.PowerLaws.{ten_fits, ten_grows}
use Rattle.numbers.proofs.ShortLaws.{short_whole, short_pointed}
use Rattle.numbers.proofs.reading.read_short.Goals as goal

pub walk_digits-whole-requires : goal.walk_digits-whole-requires
walk_digits-whole-requires c = (omega arith, (c.requires, lit< tt))

pub returns-then-point-eq0 : goal.returns-then-point-eq0
returns-then-point-eq0 c = c.read_unsigned.ensures

pub valued-requires : goal.valued-requires
valued-requires c =
    let w = c.walk_digits-whole in
    (lt_of_lt_of_le w.ensures.number_bound.0 (ten_fits w.result.end (le_trans w.ensures.number_bound.1 c.requires)), omega arith)

pub returns-then-point-s : goal.returns-then-point-s
returns-then-point-s c =
    let a = c.args in
    let w = c.walk_digits-whole in
    c.valued.ensures
    ∙ short_whole a.negative a.s.now c.requires w.result.number w.result.end w.ensures.number_value w.ensures.end_value c.if-point-eq0.false c.if-point-s.true

pub walk_digits-all-requires : goal.walk_digits-all-requires
walk_digits-all-requires c =
    let w = c.walk_digits-whole in
    (omega arith, (c.requires, lt_of_lt_of_le w.ensures.number_bound.0 (ten_grows w.result.end _ (omega arith))))

pub valued-requires-2 : goal.valued-requires-2
valued-requires-2 c =
    let w = c.walk_digits-all in
    (lt_of_lt_of_le w.ensures.number_bound.0 (ten_fits w.result.end (le_trans w.ensures.number_bound.1 c.requires)), omega arith)

pub returns : goal.returns
returns c =
    let a = c.args in
    let w = c.walk_digits-whole in
    let all = c.walk_digits-all in
    c.valued-2.ensures
    ∙ short_pointed a.negative a.s.now c.requires w.result.number w.result.end w.ensures.number_value w.ensures.end_value
    (omega arith) all.result.number all.result.end (omega arith) (omega arith) all.ensures.number_value all.ensures.end_value (omega arith)
