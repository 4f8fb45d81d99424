-- The blanks at the front are counted.
use mathlib.Core.Path.{sym, subst, ◌≡◌, ◌∙◌}
use borrow.Author.Tests.{tests}
use Rattle.std.proofs.Common.{rules, ℕ, ◌≤◌, length, drop}
use Rattle.std.proofs.lemmas.Iterator.{YieldsList-from_slice}
use Rattle.std.proofs.lemmas.Iterator.Consumers.{count_from_yields_List}
use Rattle.std.proofs.lemmas.Iterator.Search.{YieldsList-from_take_while}
use Rattle.std.proofs.lemmas.List.Folds.{length-prefix_len}
use Rattle.tokens.specs.Kinds.{is_blank}
use Rattle.tokens.specs.Trim.{trim_start}
use Rattle.tokens.proofs.TrimLaws.{starts}
use Rattle.tokens.proofs.trim.trim_start.Goals as goal

pub returns : goal.returns
returns c =
    let line = c.args.line.now in
    let counted =
    count_from_yields_List c.take_while.result _ c.count.ensures.ran (YieldsList-from_take_while _ is_blank (YieldsList-from_slice line cc) c.take_while.ensures.closure c.take_while.ensures.done (λ x b q k. search (rules, tests)))
    ∙ length-prefix_len is_blank line in
    subst (λ (n : ℕ). (n ≤ length line) × (drop n line ≡ trim_start line)) (sym counted) (starts line)
