-- `position` answers the place of the first row whose name the token is; the rows' names are the items.
use borrow.Author.Tests.{tests}
use Rattle.std.proofs.Common.{rules, ◌∙◌, List, ℕ, ap}
use Rattle.std.proofs.lemmas.Iterator.{YieldsList-from_slice}
use Rattle.std.proofs.lemmas.Iterator.Search.{position_from_yields_List}
use Rattle.ascii.specs.Words.{same_bytes}
use Rattle.tokens.specs.Items.{item_names, place_in}
use Rattle.tokens.specs.Trim.{trim_end}
use Rattle.tokens.proofs.ItemLaws.{table, place_among, table_names}
use Rattle.tokens.proofs.items.item_of.Goals as goal

pub returns : goal.returns
unfolding item_names
returns c =
    let token = c.args.token.now in
    position_from_yields_List (λ (r : List ℕ). same_bytes token (trim_end r)) _ _ _ c.position.ensures.ran (YieldsList-from_slice table cc) (λ x r q k. search (rules, tests))
    ∙ place_among token trim_end table
    ∙ ap (λ (names : List (List ℕ)). place_in names token) table_names
