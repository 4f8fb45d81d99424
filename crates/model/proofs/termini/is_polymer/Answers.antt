-- The kind of the code decides.
use mathlib.Core.Path.{ap, ◌∙◌}
use Rattle.model.specs.Termini.{of_either, is_polymer}
use Rattle.model.proofs.termini.is_polymer.Goals as goal

pub returns : goal.returns
unfolding is_polymer
returns c = c.of_either.ensures ∙ ap of_either c.of_code.ensures
