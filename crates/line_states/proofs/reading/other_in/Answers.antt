-- Each arm is one case of `other_in`.
use Rattle.line_states.proofs.reading.other_in.Goals as goal

pub returns-in-Base : goal.returns-in-Base
returns-in-Base c = rw (c.moved_to.ensures, c.in-Base.is)

pub returns-in-Header : goal.returns-in-Header
returns-in-Header c = rw (c.first_row.ensures, c.in-Header.is)

pub returns-in-AtomLoop : goal.returns-in-AtomLoop
returns-in-AtomLoop c = rw (c.moved_to-in-AtomLoop.ensures, c.in-AtomLoop.is)

pub returns-in-OtherLoop : goal.returns-in-OtherLoop
returns-in-OtherLoop c = rw (c.moved_to-in-OtherLoop.ensures, c.in-OtherLoop.is)
