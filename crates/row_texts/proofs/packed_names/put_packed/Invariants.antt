use lib.ListN.{length}
use Rattle.names.specs.Packing.{unpacked}
use Rattle.row_texts.proofs.PlainNames.{Putting}
use Rattle.row_texts.proofs.packed_names.put_packed.Given as goal

abbrev pub invariant-loop-left : goal.invariant-loop-left
invariant-loop-left l = Putting l.initial.out l.at l.name l.out l.next l.left

abbrev pub decreases-loop-left : goal.decreases-loop-left
decreases-loop-left l = length (unpacked l.left)
