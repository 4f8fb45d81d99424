-- The blocks that have no 10 are counted, up to the first that has one.
use mathlib.Core.Path.{sym, subst, ◌∙◌}
use borrow.Author.Tests.{tests}
use Rattle.std.proofs.Common.{rules, ℕ, ◌*◌, ◌/◌, length, arith}
use Rattle.std.proofs.lemmas.Iterator.{YieldsList-from_slice}
use Rattle.std.proofs.lemmas.Iterator.Consumers.{count_from_yields_List}
use Rattle.std.proofs.lemmas.Iterator.Search.{YieldsList-from_take_while}
use Rattle.std.proofs.lemmas.List.Folds.{length-prefix_len}
use Rattle.std.specs.Simd.{first_chunks}
use Rattle.ascii.specs.Lists.{every}
use Rattle.lines.specs.Lines.{is_no_feed, NoFeedBefore}
use Rattle.lines.proofs.LineLaws.{blocks_passed}
use Rattle.lines.proofs.lines.past_blocks.Goals as goal

pub returns : goal.returns
returns c =
    let text = c.args.text.now in
    let blocks = first_chunks 16 (length text / 16) text in
    let counted =
    count_from_yields_List c.take_while.result _ c.count-passed.ensures.ran (YieldsList-from_take_while _ (every is_no_feed) (YieldsList-from_slice blocks cc) c.take_while.ensures.closure c.take_while.ensures.done (λ x b q k. search (rules, tests)))
    ∙ length-prefix_len (every is_no_feed) blocks in
    subst (λ (n : ℕ). NoFeedBefore text (n * 16)) (sym counted) (blocks_passed (length text / 16) text (omega arith))
