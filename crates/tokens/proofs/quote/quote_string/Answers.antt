-- Each return is one of the three ways in which a name is written.
use mathlib.Core.Path.{sym, ◌∙◌}
use Rattle.tokens.proofs.QuoteLaws.{quote_empty, quote_bare, quote_quoted}
use Rattle.tokens.proofs.quote.quote_string.Goals as goal

pub returns-then-name-eq0 : goal.returns-then-name-eq0
returns-then-name-eq0 c = rw (quote_empty _ c.if-name-eq0.true) c.put_text.ensures

pub returns-then-all_plain : goal.returns-then-all_plain
returns-then-all_plain c = rw (quote_bare _ c.if-name-eq0.false (sym c.all_plain.ensures ∙ c.if-all_plain.true)) c.put_text-then-all_plain.ensures

pub returns : goal.returns
returns c = rw (quote_quoted _ c.if-name-eq0.false (sym c.all_plain.ensures ∙ c.if-all_plain.false), sym c.quote_for.ensures) c.put_quoted.ensures
