-- The rows ascend by their names, so that a search by halves finds a name's place, or that it has none.
use Rattle.std.proofs.Common.{rules}
use mathlib.Core.Path.{ap, ◌∙◌}
use Rattle.std.proofs.lemmas.List.Sorted.{answers_always}
use Rattle.names.specs.declared.rows.TheConstants.{ROWS}
use Rattle.names.specs.Places.{place_of}
use Rattle.names.proofs.PlacesInOrder.{searched}
use Rattle.names.proofs.RowsInOrder.{name_in, none, names_there, names_ascend}
use Rattle.names.proofs.table.place_in_order.Goals as goal

pub returns : goal.returns
returns c =
    let facts = c.binary_search_by_key.ensures in
    let by_name = facts.position name_in (answers_always _ _ _ (λ f a r g called. search rules)) in
    c.ok.ensures.value ∙ searched name_in ROWS none c.args.name names_ascend _ facts.bound by_name ∙ ap (place_of c.args.name) names_there
