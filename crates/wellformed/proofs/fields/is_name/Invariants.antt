use mathlib.Core.Path.{◌≡◌}
use lib.ListN.{length}
use Rattle.names.specs.Packing.{unpacked}
use Rattle.wellformed.proofs.NameLaws.{text_bytes}
use Rattle.wellformed.proofs.fields.is_name.Given as goal

abbrev pub invariant-loop-rest : goal.invariant-loop-rest
invariant-loop-rest l = text_bytes l.name ≡ text_bytes l.rest

abbrev pub decreases-loop-rest : goal.decreases-loop-rest
decreases-loop-rest l = length (unpacked l.rest)
