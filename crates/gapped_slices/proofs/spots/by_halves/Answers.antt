-- A look halfway leaves one half, or finds what is looked for.
use Rattle.std.proofs.Common.{arith, sym, ◌∙◌}
use Rattle.gapped_slices.proofs.SpotLaws.{closes_up, closes_down, closed_in}
use Rattle.gapped_slices.proofs.spots.by_halves.Goals as goal

pub loop-lo-init : goal.loop-lo-init
loop-lo-init g c = ((omega arith, omega arith), λ by k. record { before = c.requires.less by k; behind = λ h. absurd (omega arith) })

pub loop-lo-preserved-in-Less : goal.loop-lo-preserved-in-Less
loop-lo-preserved-in-Less g c = ((omega arith, omega arith), λ by k. closes_up (c.loop-lo.invariant.1 by k) (omega arith) (sym (k _ _ (omega arith) c.rank.ensures) ∙ c.in-Less.is))

pub returns-in-Equal : goal.returns-in-Equal
returns-in-Equal g c = λ by k. (omega arith, sym (k _ _ (omega arith) c.rank.ensures) ∙ c.in-Equal.is)

pub loop-lo-preserved : goal.loop-lo-preserved
loop-lo-preserved g c = ((omega arith, omega arith), λ by k. closes_down (c.loop-lo.invariant.1 by k) (sym (k _ _ (omega arith) c.rank.ensures) ∙ c.in-Greater.is))

pub returns : goal.returns
returns g c = λ by k. closed_in (c.loop-lo.invariant.1 by k) (omega arith) (omega arith)
