-- Counts that are refused are of no well-formed model.
use native.Mathlib.Omega.{arith}
use Rattle.writer.proofs.WellFormedParts.{counted, few_atoms}
use Rattle.writer.proofs.writing.write_well_formed.Goals as goal

pub write_writable-requires : goal.write_writable-requires
write_writable-requires c = (c.if-records-counts.false, c.if-counts-gt1048576.false)

pub returns : goal.returns
returns c = c.write_writable.ensures

pub returns-then-records-counts : goal.returns-then-records-counts
returns-then-records-counts c = λ well. absurd (omega (arith, c.then-records-counts.either, (counted _ _ well).of_chains, few_atoms _ _ well))
