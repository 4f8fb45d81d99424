-- The first test that says yes decides, as in `moved_by_token`.
use mathlib.Core.Path.{sym, ◌∙◌}
use Rattle.line_states.specs.States.{moved_by_token}
use Rattle.line_states.proofs.reading.read_token.Goals as goal

pub returns-then-is_loop : goal.returns-then-is_loop
unfolding moved_by_token
returns-then-is_loop c = rw (c.moved_to.ensures, c.no_heads.ensures, sym c.is_loop.ensures ∙ c.if-is_loop.true)

pub returns-then-is_cell_item : goal.returns-then-is_cell_item
unfolding moved_by_token
returns-then-is_cell_item c = rw (c.moved_to-then-is_cell_item.ensures, sym c.is_loop.ensures ∙ c.if-is_loop.false, sym c.is_cell_item.ensures ∙ c.if-is_cell_item.true)

pub returns-then-is_item : goal.returns-then-is_item
unfolding moved_by_token
returns-then-is_item c =
    rw (sym c.is_loop.ensures ∙ c.if-is_loop.false, sym c.is_cell_item.ensures ∙ c.if-is_cell_item.false, sym c.is_item.ensures ∙ c.if-is_item.true) c.item_in.ensures

pub returns : goal.returns
unfolding moved_by_token
returns c =
    rw (sym c.is_loop.ensures ∙ c.if-is_loop.false, sym c.is_cell_item.ensures ∙ c.if-is_cell_item.false, sym c.is_item.ensures ∙ c.if-is_item.false) c.other_in.ensures
