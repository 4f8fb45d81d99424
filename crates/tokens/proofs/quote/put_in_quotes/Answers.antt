-- The quote, the name, which fits behind it, and the quote again are each stored where the one before it ends.
use mathlib.Core.Path.{◌≡◌, refl, ◌∙◌}
use mathlib.Core.List.{List}
use Prim.Native.Nat.{ℕ, ◌+◌, ◌≤◌}
use native.Mathlib.Omega.{arith}
use lib.ListN.{length, set, length-set}
use borrow.Author.Tests.{le-leb}
use Rattle.ascii.specs.Output.{Stored, buffer_after}
use Rattle.ascii.proofs.OutputLaws.{after_fits, stored_byte, stored_append}
use Rattle.tokens.proofs.quote.put_in_quotes.Goals as goal

-- the name stands behind the first quote
named :
    (name out new : List ℕ) (at q : ℕ) → at + (length name + 2) ≤ length out → new ≡ buffer_after (set out at q) (at + 1) name
    → Stored (set out at q) (at + 1) name new (at + 1 + length name)
named name out new at q fits e = record {
  bytes = e ∙ after_fits (set out at q) (at + 1) name (le-leb (at + 1 + length name) (length (set out at q)) (simp length-set (omega arith)));
  place = refl;
}

pub returns : goal.returns
returns c =
    let a = c.args in
    let t = c.put_text in
    stored_append (stored_byte a.out.now a.at a.q) (stored_append (named a.name.now a.out.now t.new.out a.at a.q c.requires t.ensures.1) (stored_byte t.new.out (a.at + 1 + length a.name.now) a.q))
