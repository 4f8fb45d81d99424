-- The number of headers so far decides, as in `recorded_of`.
use borrow.Author.Tests.{lt-ltb, le-ltb}
use Rattle.line_states.proofs.reading.recorded.Goals as goal

pub returns-then-heads-ge-HEADERS : goal.returns-then-heads-ge-HEADERS
returns-then-heads-ge-HEADERS c = rw (c.moved_to.ensures, le-ltb c.args.heads.headers 64 c.if-heads-ge-HEADERS.true)

pub returns : goal.returns
returns c = rw (c.moved_to-2.ensures, c.with_header.ensures, lt-ltb c.args.heads.headers 64 c.if-heads-ge-HEADERS.false)
