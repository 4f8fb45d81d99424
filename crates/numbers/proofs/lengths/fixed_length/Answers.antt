-- A minus sign is one byte, no sign none.
use mathlib.Core.Path.{ap, ◌∙◌}
use Prim.Native.Nat.{ℕ, ◌+◌}
use Rattle.numbers.proofs.PrintingLaws.{sign_counts}
use Rattle.numbers.proofs.lengths.fixed_length.Goals as goal

pub returns : goal.returns
returns c = ap (λ (k : ℕ). k + c.args.count + 1 + 3) (c.from.ensures ∙ sign_counts c.args.negative)
