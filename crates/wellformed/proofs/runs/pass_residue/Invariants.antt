use mathlib.Core.Path.{◌≡◌}
use Prim.Native.Nat.{◌+◌, ◌-◌}
use Rattle.wellformed.specs.Runs.{equals}
use Rattle.wellformed.specs.Slices.{entries}
use Rattle.wellformed.proofs.FromLaws.{rest}
use Rattle.wellformed.proofs.runs.pass_residue.Given as goal

abbrev pub invariant-loop-i : goal.invariant-loop-i
invariant-loop-i l = l.from + equals l.key (rest (entries l.keys) l.n l.from) ≡ l.i + equals l.key (rest (entries l.keys) l.n l.i)

abbrev pub decreases-loop-i : goal.decreases-loop-i
decreases-loop-i l = l.n - l.i
