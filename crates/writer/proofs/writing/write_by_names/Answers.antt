-- A model that is not well formed is refused.
use mathlib.Core.Path.{sym, ◌∙◌}
use Rattle.writer.proofs.WritingLaws.{not_well_formed}
use Rattle.writer.proofs.writing.write_by_names.Goals as goal

pub returns : goal.returns
returns c = not_well_formed _ _ _ (sym c.is_well_formed.ensures ∙ c.if-is_well_formed.false)
