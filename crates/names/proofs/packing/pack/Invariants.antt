use mathlib.Core.Path.{◌≡◌}
use Prim.Native.Nat.{◌^◌, ◌<◌}
use Rattle.names.specs.Packing.{packed}
use Rattle.names.proofs.PackingTurns.{onward}
use Rattle.names.proofs.packing.pack.Given as goal

abbrev pub invariant-loop-i : goal.invariant-loop-i
invariant-loop-i l = (l.number < 256 ^ l.i) × (onward l.number l.name l.i ≡ packed l.name)
