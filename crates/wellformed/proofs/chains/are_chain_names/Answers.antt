-- `all` answers whether each name passes, which is what `every` asks.
use borrow.Author.Tests.{tests}
use Rattle.std.proofs.Common.{rules, ◌∙◌}
use Rattle.std.proofs.lemmas.Iterator.{YieldsList-from_slice}
use Rattle.std.proofs.lemmas.Iterator.Search.{all_from_yields_List}
use Rattle.wellformed.specs.Slices.{is_chain_name}
use Rattle.wellformed.proofs.ChainLaws.{all_every}
use Rattle.wellformed.proofs.chains.are_chain_names.Goals as goal

pub returns : goal.returns
returns c =
    let l = c.args.chains.now in
    all_from_yields_List is_chain_name _ _ _ c.all.ensures.ran (YieldsList-from_slice l cc) (λ x r q k. search (rules, tests)) ∙ all_every is_chain_name l
