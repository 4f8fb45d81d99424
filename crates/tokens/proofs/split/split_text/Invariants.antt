use Rattle.tokens.specs.Splitting.{Ordered, Copying}
use Rattle.tokens.proofs.split.split_text.Given as goal

abbrev pub invariant-loop-b : goal.invariant-loop-b
invariant-loop-b l = Ordered l.b-index l.begin l.len l.count × Copying l.text l.initial.cell l.initial.places l.b-index l.quote l.begin l.len l.count l.cell l.places
