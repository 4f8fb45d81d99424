-- The kind of the code decides, and the position has its number.
use mathlib.Core.Path.{◌≡◌, ap, ◌∙◌}
use Rattle.names.specs.Positions.{position_code}
use Rattle.model.specs.Termini.{position_by}
use Rattle.model.proofs.termini.position_of.Goals as goal

pub returns : goal.returns
returns c =
    let a = c.args in
    let by : c.position_by.result ≡ position_by c.of_code.result a.first a.last = c.position_by.ensures in
    c.code.ensures ∙ ap position_code (by ∙ ap (λ kind. position_by kind a.first a.last) c.of_code.ensures)
