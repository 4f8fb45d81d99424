-- The quotes and the name are put where they fit, which is what the code asks: the name and two bytes more.
use mathlib.Core.Path.{◌≡◌, sym, ap, ◌∙◌}
use mathlib.Core.List.{List}
use mathlib.Core.Bool.{Bool}
use Prim.Native.Nat.{ℕ, ◌+◌}
use lib.Dec.{leb}
use lib.ListN.{length}
use borrow.Author.Tests.{leb-true}
use Rattle.ascii.specs.Output.{fits}
use Rattle.ascii.proofs.OutputLaws.{put_whole, put_nothing}
use Rattle.tokens.specs.Quote.{in_quotes}
use Rattle.tokens.proofs.QuoteLaws.{quoted_length}
use Rattle.tokens.proofs.quote.put_quoted.Goals as goal

-- what was asked is whether the quoted name fits
asked : (name out : List ℕ) (q at : ℕ) (t : Bool) → t ≡ leb (at + (length name + 2)) (length out) → fits out at (in_quotes q name) ≡ t
asked name out q at t e = ap (λ (n : ℕ). leb (at + n) (length out)) (sym (quoted_length q name)) ∙ sym e

pub returns-then-not-fits_at : goal.returns-then-not-fits_at
returns-then-not-fits_at c =
    let a = c.args in
    put_nothing a.out.now a.at (in_quotes a.q a.name.now) (asked a.name.now a.out.now a.q a.at _ c.fits_at.ensures ∙ c.if-not-fits_at.true) (quoted_length a.q a.name.now)

pub put_in_quotes-requires : goal.put_in_quotes-requires
put_in_quotes-requires c = leb-true _ _ (sym c.fits_at.ensures ∙ c.if-not-fits_at.false)

pub returns : goal.returns
returns c =
    let a = c.args in
    put_whole a.out.now a.at (in_quotes a.q a.name.now) (asked a.name.now a.out.now a.q a.at _ c.fits_at.ensures ∙ c.if-not-fits_at.false) c.put_in_quotes.ensures
