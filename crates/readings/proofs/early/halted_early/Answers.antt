-- The length is tested as the definition tests it, and then the first byte outside.
use mathlib.Core.Path.{◌≡◌, sym, ap, ◌∙◌}
use mathlib.Core.List.{List}
use Prim.Native.Nat.{ℕ, ◌≤◌}
use lib.ListN.{length}
use borrow.Author.Tests.{lt-ltb, le-ltb}
use Rattle.lines.specs.Domain.{outside_of}
use Rattle.readings.specs.Closing.{halted_by, halted_early}
use Rattle.readings.specs.Reading.{largest}
use Rattle.readings.proofs.early.halted_early.Goals as goal

by_domain : (text : List ℕ) → length text ≤ largest → halted_early text ≡ halted_by (outside_of text)
unfolding halted_early
by_domain text h = rw (le-ltb largest (length text) h)

pub returns-then-text-gt-LARGEST : goal.returns-then-text-gt-LARGEST
unfolding halted_early
returns-then-text-gt-LARGEST c = rw (lt-ltb largest (length c.args.text.now) c.if-text-gt-LARGEST.true)

pub returns-in-Some : goal.returns-in-Some
returns-in-Some c = sym (by_domain c.args.text.now c.if-text-gt-LARGEST.false ∙ ap halted_by (sym c.first_outside.ensures ∙ c.in-Some.is))

pub returns : goal.returns
returns c = sym (by_domain c.args.text.now c.if-text-gt-LARGEST.false ∙ ap halted_by (sym c.first_outside.ensures ∙ c.in_default.is))
