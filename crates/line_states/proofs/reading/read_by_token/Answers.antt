-- Where nothing is found there is no token; else the cell holds the first token, or of a long one as much as decides.
use mathlib.Core.Path.{sym, ap, ◌∙◌}
use native.Mathlib.Omega.{arith}
use Rattle.tokens.specs.Tokens.{token_at}
use Rattle.line_states.specs.States.{moved_by_token}
use Rattle.line_states.proofs.FirstToken.{no_token, some_token}
use Rattle.line_states.proofs.LongTokens.{full_cell_decides}
use Rattle.line_states.proofs.TokenInCell.{whole}
use Rattle.line_states.proofs.reading.read_by_token.Goals as goal

pub returns-then-n-eq0 : goal.returns-then-n-eq0
returns-then-n-eq0 c =
    let a = c.args in
    c.moved_to.ensures ∙ sym (no_token a.heads a.line.now (sym c.tokenize_mmcif_line-n.ensures.0 ∙ c.if-n-eq0.true))

pub returns-then-n-lt-CELL : goal.returns-then-n-lt-CELL
returns-then-n-lt-CELL c =
    let a = c.args in
    let e = c.tokenize_mmcif_line-n.ensures in
    let line = a.line.now in
    c.read_token.ensures
    ∙ ap (moved_by_token a.heads) (whole (token_at line 0) _ e.1 e.0 (omega arith))
    ∙ sym (some_token a.heads line (λ z. c.if-n-eq0.false (e.0 ∙ z)))

pub returns : goal.returns
returns c =
    let a = c.args in
    let e = c.tokenize_mmcif_line-n.ensures in
    let line = a.line.now in
    c.read_token-2.ensures
    ∙ full_cell_decides a.heads (token_at line 0) _ e.1 (omega arith) (omega arith)
    ∙ sym (some_token a.heads line (λ z. c.if-n-eq0.false (e.0 ∙ z)))
