-- The blanks at the end are counted, from the last byte back.
use mathlib.Core.Path.{sym, subst, ◌≡◌, ◌∙◌}
use borrow.Author.Tests.{tests}
use Rattle.std.proofs.Common.{rules, arith, ℕ, ◌-◌, length, take, reverse}
use Rattle.std.proofs.lemmas.Iterator.Adapters.{YieldsList-from_rev_slice}
use Rattle.std.proofs.lemmas.Iterator.Consumers.{count_from_yields_List}
use Rattle.std.proofs.lemmas.Iterator.Search.{YieldsList-from_take_while}
use Rattle.std.proofs.lemmas.List.Folds.{length-prefix_len}
use Rattle.std.specs.List.{prefix_len}
use Rattle.tokens.specs.Kinds.{is_blank}
use Rattle.tokens.specs.Trim.{trim_end}
use Rattle.tokens.proofs.TrimLaws.{ends}
use Rattle.tokens.proofs.trim.trim_end.Goals as goal

counted : (c : goal.After-count) → c.count.result ≡ prefix_len is_blank (reverse c.args.line.now)
counted c =
    count_from_yields_List c.take_while.result _ c.count.ensures.ran (YieldsList-from_take_while _ is_blank (YieldsList-from_rev_slice c.args.line.now cc) c.take_while.ensures.closure c.take_while.ensures.done (λ x b q k. search (rules, tests)))
    ∙ length-prefix_len is_blank (reverse c.args.line.now)

pub overflow_sub-result : goal.overflow_sub-result
overflow_sub-result c = omega (arith, counted c, (ends c.args.line.now).0)

pub returns : goal.returns
returns c =
    let line = c.args.line.now in
    (omega arith, subst (λ (n : ℕ). take (length line - n) line ≡ trim_end line) (sym (counted c)) (ends line).1)
