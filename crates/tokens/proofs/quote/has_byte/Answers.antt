-- `any` answers whether some byte is b, which is what `has` asks.
use borrow.Author.Tests.{tests}
use Rattle.std.proofs.Common.{rules, ◌∙◌, nat_eq}
use Rattle.std.proofs.lemmas.Iterator.{YieldsList-from_slice}
use Rattle.std.proofs.lemmas.Iterator.Search.{any_from_yields_List}
use Rattle.tokens.proofs.QuoteLaws.{any_is_has}
use Rattle.tokens.proofs.quote.has_byte.Goals as goal

pub returns : goal.returns
returns c =
    let a = c.args in
    any_from_yields_List (λ x. nat_eq x a.b) _ _ _ c.any.ensures.ran (YieldsList-from_slice a.s.now cc) (λ x r q k. search (rules, tests)) ∙ any_is_has a.b a.s.now
