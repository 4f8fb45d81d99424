-- A line of at most 2,048 bytes is its first 2,048 bytes.
use mathlib.Core.Path.{sym, ap, ◌∙◌}
use native.Mathlib.Omega.{arith}
use lib.Seq.{take_all}
use Rattle.tokens.specs.Longest.{longest}
use Rattle.rows.specs.Fields.{fields_of}
use Rattle.rows.proofs.fields.fields_of.Goals as goal

pub returns-then-line-le-SHORT : goal.returns-then-line-le-SHORT
returns-then-line-le-SHORT c =
    let a = c.args in
    c.fields_within.ensures ∙ ap (fields_of a.columns) (sym (take_all longest a.line.now (omega (arith, c.if-line-le-SHORT.true))))

pub returns-then-line-le-LONGEST : goal.returns-then-line-le-LONGEST
returns-then-line-le-LONGEST c =
    let a = c.args in
    c.fields_within-then-line-le-LONGEST.ensures ∙ ap (fields_of a.columns) (sym (take_all longest a.line.now c.if-line-le-LONGEST.true))
