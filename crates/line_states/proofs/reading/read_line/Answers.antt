-- A line of at most 2,048 bytes is its first 2,048 bytes.
use mathlib.Core.Path.{sym, ap, ◌∙◌}
use lib.Seq.{take_all}
use Rattle.tokens.specs.Longest.{longest}
use Rattle.line_states.specs.States.{moved_by}
use Rattle.line_states.proofs.reading.read_line.Goals as goal

pub returns-then-line-le-LONGEST : goal.returns-then-line-le-LONGEST
returns-then-line-le-LONGEST c =
    let a = c.args in
    c.read_by_byte.ensures ∙ ap (moved_by a.heads) (sym (take_all longest a.line.now c.if-line-le-LONGEST.true))
