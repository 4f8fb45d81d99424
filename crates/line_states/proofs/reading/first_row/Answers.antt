-- Whether some header begins `_atom_site.` decides, as in `first_row`.
use Rattle.line_states.proofs.reading.first_row.Goals as goal

pub returns-then-heads : goal.returns-then-heads
returns-then-heads c = rw (c.moved_to.ensures, c.in_state.ensures, c.if-heads.true)

pub returns : goal.returns
returns c = rw (c.moved_to-2.ensures, c.in_state-2.ensures, c.if-heads.false)
