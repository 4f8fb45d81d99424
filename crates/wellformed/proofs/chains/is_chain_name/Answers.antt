-- The name `.` is one number, and any other is tested as a name.
use Rattle.std.proofs.Common.{arith}
use Rattle.std.proofs.lemmas.Grind.{common_steps}
use Rattle.names.specs.Packing.{packed_in}
use Rattle.wellformed.proofs.chains.is_chain_name.Goals as goal

pub returns-then-is_name : goal.returns-then-is_name
unfolding packed_in
returns-then-is_name c = grind (arith, common_steps)
