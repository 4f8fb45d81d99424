-- Clearing from entry i on leaves what clearing from `keep` on leaves.
use Rattle.field_slices.proofs.ClearingLaws.{Clearing}
use Rattle.field_slices.proofs.clearing.clear_from.Given as goal

abbrev pub invariant-loop-i : goal.invariant-loop-i
invariant-loop-i g l = Clearing l.fn.zero l.initial.slice l.fn.keep l.slice l.i
