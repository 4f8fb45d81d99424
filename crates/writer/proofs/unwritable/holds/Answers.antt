-- The byte stands in what is left exactly where it stands in the whole name, and nothing is left where the rest is 0.
use mathlib.Core.Path.{refl, sym, ◌∙◌}
use native.Mathlib.Omega.{arith}
use Rattle.names.proofs.PackingTurns.{one_less}
use Rattle.writer.proofs.NameBytes.{has_end, has_found, has_on}
use Rattle.writer.proofs.unwritable.holds.Goals as goal

pub loop-rest-init : goal.loop-rest-init
loop-rest-init c = refl

pub returns-then-first_byte-b : goal.returns-then-first_byte-b
returns-then-first_byte-b c =
    let l = c.loop-rest in
    sym (l.invariant ∙ has_found _ l.rest c.loop-rest-test.true (sym c.first_byte.ensures ∙ c.if-first_byte-b.true))

pub loop-rest-smaller : goal.loop-rest-smaller
loop-rest-smaller c =
    omega (arith, one_less c.loop-rest.rest c.after_first-rest.result c.loop-rest-test.true c.after_first-rest.ensures)

pub loop-rest-preserved : goal.loop-rest-preserved
loop-rest-preserved c =
    let l = c.loop-rest in
    l.invariant ∙ has_on _ l.rest c.loop-rest-test.true c.after_first-rest.result c.after_first-rest.ensures (λ e. c.if-first_byte-b.false (c.first_byte.ensures ∙ e))

pub returns : goal.returns
returns c = sym (c.loop-rest.invariant ∙ has_end _ c.loop-rest.rest c.loop-rest-test.false)
