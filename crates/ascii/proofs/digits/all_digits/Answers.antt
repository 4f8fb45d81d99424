-- There is a byte, and every byte is a digit.
use mathlib.Core.Path.{sym, ap, ◌∙◌}
use mathlib.Core.Bool.{not}
use native.Mathlib.Omega.{arith}
use lib.ListN.{length}
use borrow.Author.Tests.{tests, eqb-true, eqb-false, lt-ltb, le-ltb}
use Rattle.std.proofs.Common.{rules}
use Rattle.std.proofs.lemmas.Iterator.{YieldsList-from_slice}
use Rattle.std.proofs.lemmas.Iterator.Search.{all_from_yields_List}
use Rattle.ascii.specs.Digits.{is_digit, all_digits}
use Rattle.ascii.proofs.DigitLaws.{all_passed}
use Rattle.ascii.proofs.digits.all_digits.Goals as goal

pub returns-then-not-is_empty : goal.returns-then-not-is_empty
unfolding all_digits
returns-then-not-is_empty c =
    let s = c.args.s.now in
    let some = eqb-false (length s) 0 (sym c.is_empty.ensures ∙ c.if-not-is_empty.true) in
    all_from_yields_List is_digit _ _ _ c.all.ensures.ran (YieldsList-from_slice s cc) (λ x r q k. search (rules, tests))
    ∙ all_passed s
    ∙ simp (lt-ltb 0 (length s) (omega arith))

pub returns-else-not-is_empty : goal.returns-else-not-is_empty
unfolding all_digits
returns-else-not-is_empty c =
    let s = c.args.s.now in
    let none = eqb-true (length s) 0 (sym c.is_empty.ensures ∙ c.if-not-is_empty.false) in
    ap not c.if-not-is_empty.false ∙ sym (simp (le-ltb 0 (length s) (omega arith)))
