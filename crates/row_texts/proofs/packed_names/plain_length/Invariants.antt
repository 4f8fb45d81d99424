use mathlib.Core.Path.{◌≡◌}
use Prim.Native.Nat.{◌+◌}
use lib.ListN.{length}
use Rattle.tokens.specs.Quote.{all_plain}
use Rattle.names.specs.Packing.{unpacked}
use Rattle.row_texts.proofs.packed_names.plain_length.Given as goal

abbrev pub invariant-loop-rest : goal.invariant-loop-rest
invariant-loop-rest l = (length (unpacked l.name) ≡ l.n + length (unpacked l.rest)) × (all_plain (unpacked l.name) ≡ all_plain (unpacked l.rest))

abbrev pub decreases-loop-rest : goal.decreases-loop-rest
decreases-loop-rest l = length (unpacked l.rest)
