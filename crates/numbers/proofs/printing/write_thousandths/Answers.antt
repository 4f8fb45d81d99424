-- What is not printable changes nothing; of what is, the sign and the units are put.
use mathlib.Core.Path.{sym, ap, ◌∙◌, subst}
use lib.Dec.{T}
use Rattle.std.specs.Prelude.{Err}
use Rattle.std.proofs.lemmas.Result.{err_from_is_err_and}
use Rattle.numbers.proofs.PrintingLaws.{put_none, put_some}
use Rattle.numbers.proofs.printing.write_thousandths.Goals as goal

pub returns-then-not-is_printable : goal.returns-then-not-is_printable
returns-then-not-is_printable c = put_none 3 c.args.x _ _ (sym c.is_printable.ensures ∙ c.if-not-is_printable.true)

pub is_negative-negative-requires : goal.is_negative-negative-requires
is_negative-negative-requires c = subst T (sym (sym c.is_printable.ensures ∙ c.if-not-is_printable.false)) tt

pub units-n-requires : goal.units-n-requires
units-n-requires c = subst T (sym (sym c.is_printable.ensures ∙ c.if-not-is_printable.false)) tt

-- no room for the text is no room for the double's
pub returns-in_err-put_fixed : goal.returns-in_err-put_fixed
returns-in_err-put_fixed c =
    let p = err_from_is_err_and c.from_residual.result c.from_residual.ensures.1 in
    let said =
    put_some 3 c.args.x c.args.out.now c.args.at
    (sym c.is_printable.ensures ∙ c.if-not-is_printable.false)
    c.is_negative-negative.ensures c.units-n.ensures c.in_err-put_fixed.ensures in
    (p.1 ∙ ap Err p.2 ∙ said.0, said.1)

pub returns : goal.returns
returns c =
    put_some 3 c.args.x c.args.out.now c.args.at
    (sym c.is_printable.ensures ∙ c.if-not-is_printable.false)
    c.is_negative-negative.ensures c.units-n.ensures c.in_ok-put_fixed.ensures
