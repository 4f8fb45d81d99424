-- The test is the definition's, and so is what each branch gives.
use mathlib.Core.Path.{sym, ◌∙◌}
use native.Mathlib.Omega.{arith}
use Rattle.model.proofs.neighbours.met_with.Goals as goal

pub overflow_add-result : goal.overflow_add-result
overflow_add-result c = omega arith

pub returns-then-is_polymer : goal.returns-then-is_polymer
returns-then-is_polymer c = rw (sym c.is_polymer.ensures ∙ c.if-is_polymer.true) (omega (arith, c.chain_part.ensures))

pub returns-else-is_polymer : goal.returns-else-is_polymer
returns-else-is_polymer c = rw (sym c.is_polymer.ensures ∙ c.if-is_polymer.false)
