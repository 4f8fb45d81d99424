use mathlib.Core.Path.{◌≡◌}
use Prim.Native.Nat.{◌+◌, ◌≤◌}
use lib.ListN.{drop}
use Rattle.lines.specs.Domain.{outside_from, outside_of}
use Rattle.lines.proofs.domain.walk_to_outside.Given as goal

abbrev pub invariant-loop-i : goal.invariant-loop-i
invariant-loop-i l = (l.line ≤ l.i + 1) × (outside_of l.text ≡ outside_from l.line (drop l.i l.text))
