-- `all` answers whether every byte is plain, which is what `all_plain` asks.
use borrow.Author.Tests.{tests}
use Rattle.std.proofs.Common.{rules, ◌∙◌}
use Rattle.std.proofs.lemmas.Iterator.{YieldsList-from_slice}
use Rattle.std.proofs.lemmas.Iterator.Search.{all_from_yields_List}
use Rattle.tokens.specs.Kinds.{is_plain}
use Rattle.tokens.proofs.QuoteLaws.{all_are_plain}
use Rattle.tokens.proofs.quote.all_plain.Goals as goal

pub returns : goal.returns
returns c =
    let s = c.args.s.now in
    all_from_yields_List is_plain _ _ _ c.all.ensures.ran (YieldsList-from_slice s cc) (λ x r q k. search (rules, tests)) ∙ all_are_plain s
