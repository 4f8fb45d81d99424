use mathlib.Core.Path.{◌≡◌}
use Prim.Native.Nat.{◌+◌, ◌-◌}
use Rattle.wellformed.specs.Runs.{equals}
use Rattle.wellformed.specs.Slices.{entries}
use Rattle.wellformed.proofs.FromLaws.{rest}
use Rattle.model.specs.Keys.{chain_part}
use Rattle.wellformed.proofs.runs.pass_chain.Given as goal

abbrev pub invariant-loop-i : goal.invariant-loop-i
invariant-loop-i l = l.from + equals l.place (rest (λ k. chain_part (entries l.keys k)) l.n l.from) ≡ l.i + equals l.place (rest (λ k. chain_part (entries l.keys k)) l.n l.i)

abbrev pub decreases-loop-i : goal.decreases-loop-i
decreases-loop-i l = l.n - l.i
