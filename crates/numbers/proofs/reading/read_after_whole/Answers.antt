-- A point is left out, and the digits behind it are the places; without one there are no places.
use mathlib.Core.Path.{sym, ap, ◌∙◌, subst}
use mathlib.Core.List.{List}
use Prim.Native.Nat.{ℕ, ◌≤◌}
use lib.ListN.{length}
use Rattle.ascii.proofs.DigitLaws.{run_fits}
use Rattle.numbers.specs.Grammar.{digits, after_digits, parts}
use Rattle.numbers.specs.Reading.{read_as}
use Rattle.numbers.proofs.GrammarLaws.{point_found, point_not_found, cut_digits, whole_point, whole_alone}
use Rattle.numbers.proofs.reading.read_after_whole.Goals as goal

pub returns-in_default : goal.returns-in_default
returns-in_default c =
    let rest = c.args.rest.now in
    c.read_parts.ensures ∙ ap read_as (sym (whole_alone _ _ rest (point_not_found rest c.in_default.ensures.cases)))

pub split_at-requires : goal.split_at-requires
split_at-requires c = let l = c.in-Some.behind.now in subst (λ (n : ℕ). n ≤ length l) (sym c.count_digits.ensures) (run_fits l)

pub returns : goal.returns
returns c =
    let negative = c.args.negative in
    let whole = c.args.whole.now in
    let rest = c.args.rest.now in
    let found = c.in-Some.ensures.cases in
    c.read_parts-2.ensures
    ∙ ap read_as
    (cut_digits (parts negative whole) c.in-Some.behind.now _ _ c.count_digits.result c.split_at.ensures.front c.split_at.ensures.back c.count_digits.ensures
    ∙ ap (λ (l : List ℕ). parts negative whole (digits l) (after_digits l)) found.1
    ∙ sym (whole_point negative whole rest (point_found rest found.0)))
