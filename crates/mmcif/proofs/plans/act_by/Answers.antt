-- Each arm is one case of `act_by`; a line of at most 2,048 bytes is its first 2,048 bytes.
use mathlib.Core.Path.{sym, ap, ◌∙◌}
use lib.Seq.{take_all}
use Rattle.tokens.specs.Longest.{longest}
use Rattle.rows.specs.Fields.{fields_of}
use Rattle.rows.specs.Rules.{row_of}
use Rattle.mmcif.specs.Acts.{row_act, act_by}
use Rattle.mmcif.proofs.plans.act_by.Goals as goal

pub returns-in-Row : goal.returns-in-Row
returns-in-Row c =
    let a = c.args in
    let fields = c.fields_of.ensures ∙ ap (fields_of a.columns) (take_all longest a.line.now c.requires) in
    c.row_act.ensures
    ∙ ap row_act (c.row_of.ensures ∙ ap (row_of a.settings) fields)
    ∙ sym (ap (act_by a.settings a.line.now a.columns) c.in-Row.is)

pub returns-in-TooManyHeaders : goal.returns-in-TooManyHeaders
returns-in-TooManyHeaders c = rw c.in-TooManyHeaders.is
