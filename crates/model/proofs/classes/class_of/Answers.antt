-- What the table says of the name decides.
use mathlib.Core.Path.{ap, ◌∙◌}
use Rattle.model.specs.Classes.{class_by, class_of}
use Rattle.model.proofs.classes.class_of.Goals as goal

pub returns : goal.returns
unfolding class_of
returns c = c.class_by.ensures ∙ ap (λ resolved. class_by resolved c.args.name c.args.lone) c.resolve.ensures
