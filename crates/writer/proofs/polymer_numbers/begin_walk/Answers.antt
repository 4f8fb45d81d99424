-- Each field is what the call before it answered.
use mathlib.Core.Path.{ap, ◌∙◌}
use Rattle.writer.specs.PolymerNumbers.{number_after}
use Rattle.writer.proofs.polymer_numbers.begin_walk.Goals as goal

pub returns : goal.returns
returns c =
    let residue = c.residue_at-residue.ensures in
    let number = c.number_after.ensures ∙ ap (number_after 0 0) residue in
    λ i. record { index = 0; number = number i; residue = residue i }
