-- No digit is outside the grammar; nothing after the digits is a decimal; an exponent is beyond reach, and anything else outside the grammar.
use mathlib.Core.Path.{sym, ap, ◌∙◌}
use mathlib.Core.List.{List}
use mathlib.Core.Bool.{Bool, cond}
use Prim.Native.Nat.{ℕ}
use borrow.Author.Tests.{eqb-true, eqb-false}
use Rattle.numbers.specs.Grammar.{outside, decimal}
use Rattle.numbers.specs.Reading.{read_as}
use Rattle.numbers.proofs.GrammarLaws.{parts_none, parts_decimal, parts_exponent}
use Rattle.numbers.proofs.ReadingLaws.{read_exponent, empty}
use Rattle.numbers.proofs.reading.read_parts.Goals as goal

pub returns-then-whole-places-eq0 : goal.returns-then-whole-places-eq0
unfolding read_as
returns-then-whole-places-eq0 c =
    let whole = c.args.whole.now in
    let places = c.args.places.now in
    let rest = c.args.rest.now in
    sym (ap read_as (parts_none _ whole places rest c.if-whole-places-eq0.true))

pub returns-then-is_empty : goal.returns-then-is_empty
returns-then-is_empty c =
    let negative = c.args.negative in
    let whole = c.args.whole.now in
    let places = c.args.places.now in
    let rest = c.args.rest.now in
    c.read_decimal.ensures
    ∙ ap (λ (e : List ℕ). read_as (decimal negative whole places e)) (sym (empty rest (eqb-true _ _ (sym c.is_empty.ensures ∙ c.if-is_empty.true))))
    ∙ sym (ap read_as (parts_decimal negative whole places rest c.if-whole-places-eq0.false (eqb-true _ _ (sym c.is_empty.ensures ∙ c.if-is_empty.true))))

pub returns-then-is_exponent : goal.returns-then-is_exponent
returns-then-is_exponent c =
    let negative = c.args.negative in
    let whole = c.args.whole.now in
    let places = c.args.places.now in
    let rest = c.args.rest.now in
    sym (ap read_as (parts_exponent negative whole places rest c.if-whole-places-eq0.false (eqb-false _ _ (sym c.is_empty.ensures ∙ c.if-is_empty.false)))
    ∙ ap (λ (t : Bool). read_as (cond t (decimal negative whole places rest) outside)) (sym c.is_exponent.ensures ∙ c.if-is_exponent.true)
    ∙ read_exponent negative whole places rest (eqb-false _ _ (sym c.is_empty.ensures ∙ c.if-is_empty.false)))

pub returns-else-is_exponent : goal.returns-else-is_exponent
unfolding read_as
returns-else-is_exponent c =
    let negative = c.args.negative in
    let whole = c.args.whole.now in
    let places = c.args.places.now in
    let rest = c.args.rest.now in
    sym (ap read_as (parts_exponent negative whole places rest c.if-whole-places-eq0.false (eqb-false _ _ (sym c.is_empty.ensures ∙ c.if-is_empty.false)))
    ∙ ap (λ (t : Bool). read_as (cond t (decimal negative whole places rest) outside)) (sym c.is_exponent.ensures ∙ c.if-is_exponent.false))
