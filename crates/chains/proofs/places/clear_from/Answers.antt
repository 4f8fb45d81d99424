-- The names of a list that is so cleared are cleared so.
use Rattle.std.proofs.Common.{ap, ◌∙◌}
use Rattle.field_slices.proofs.MapLaws.{map_cleared}
use Rattle.chains.specs.Names.{chain_of, names_in}
use Rattle.chains.proofs.places.clear_from.Goals as goal

pub returns : goal.returns
returns c = ap names_in c.clear_from.ensures ∙ map_cleared (λ h. h.name) (chain_of 0) c.args.count c.args.chains.now
