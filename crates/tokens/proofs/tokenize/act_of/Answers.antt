-- Each return is one case of `act_of`, by the tests that led there and by what `kind_of` said.
use mathlib.Core.Path.{sym, ◌∙◌}
use borrow.Author.Tests.{eq-eqb, ne_eqb}
use Rattle.tokens.proofs.tokenize.act_of.Goals as goal

pub returns-then-b-quote : goal.returns-then-b-quote
returns-then-b-quote c = rw (ne_eqb _ _ c.if-quote-ne0.true, eq-eqb _ _ c.if-b-quote.true)

pub returns-then-quote-ne0 : goal.returns-then-quote-ne0
returns-then-quote-ne0 c = rw (ne_eqb _ _ c.if-quote-ne0.true, ne_eqb _ _ c.if-b-quote.false)

pub returns-then-len-eq0 : goal.returns-then-len-eq0
returns-then-len-eq0 c = rw (eq-eqb _ _ c.if-quote-ne0.false, sym c.kind_of.ensures ∙ c.in-Quote.is, eq-eqb _ _ c.if-len-eq0.true)

pub returns-in-Blank : goal.returns-in-Blank
returns-in-Blank c = rw (eq-eqb _ _ c.if-quote-ne0.false, sym c.kind_of.ensures ∙ c.in-Blank.is)

pub returns-else-len-eq0 : goal.returns-else-len-eq0
returns-else-len-eq0 c = rw (eq-eqb _ _ c.if-quote-ne0.false, sym c.kind_of.ensures ∙ c.in-Quote.is, ne_eqb _ _ c.if-len-eq0.false)

pub returns-in-Plain : goal.returns-in-Plain
returns-in-Plain c = rw (eq-eqb _ _ c.if-quote-ne0.false, sym c.kind_of.ensures ∙ c.in-Plain.is)
