-- What is lent to `split_text` is the line's content, and that is what the line's tokens are made of.
use mathlib.Core.Path.{ap, ◌∙◌}
use mathlib.Core.List.{List}
use Prim.Native.Nat.{ℕ}
use lib.ListN.{length}
use lib.Seq.{sets}
use Rattle.tokens.specs.Split.{joined, places_from}
use Rattle.tokens.specs.Tokens.{tokens_from}
use Rattle.tokens.proofs.TokenLaws.{content_tokens}
use Rattle.tokens.proofs.split.split_mmcif_line.Goals as goal

pub returns : goal.returns
returns c =
    let a = c.args in
    let t = c.split_text.ensures in
    let e = ap tokens_from c.content_of.ensures ∙ content_tokens a.line.now in record { value = t.value ∙ ap length e; cell_after = t.cell_after ∙ ap (λ (ts : List (List ℕ)). sets a.cell.now 0 (joined ts)) e; places_after = t.places_after ∙ ap (λ (ts : List (List ℕ)). sets a.places.now 0 (places_from 0 ts)) e }
