-- What is lent to `token_from` is the line's content, and that is what the line's tokens are made of.
use mathlib.Core.Path.{ap, ◌∙◌}
use mathlib.Core.List.{List, []}
use Prim.Native.Nat.{ℕ}
use lib.ListN.{length, get_or}
use lib.Seq.{sets}
use Rattle.tokens.specs.Tokens.{tokens_from, token_at}
use Rattle.tokens.proofs.TokenLaws.{content_tokens}
use Rattle.tokens.proofs.tokenize.tokenize_mmcif_line.Goals as goal

pub returns : goal.returns
unfolding token_at
returns c =
    let t = c.token_from.ensures in
    let a = c.args in
    let e = ap tokens_from c.content_of.ensures ∙ content_tokens a.line.now in
    (t.0 ∙ ap (λ (ts : List (List ℕ)). length (get_or ts a.k [])) e, t.1 ∙ ap (λ (ts : List (List ℕ)). sets a.cell.now 0 (get_or ts a.k [])) e)
