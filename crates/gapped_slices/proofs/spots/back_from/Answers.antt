-- What is found among those that are left is found among all, since the one behind them is greater.
use Rattle.std.proofs.Common.{◌-◌, ◌≡◌, arith, sym, ap, ◌∙◌}
use Rattle.gapped_slices.proofs.SpotLaws.{sought_first}
use Rattle.gapped_slices.proofs.spots.back_from.Goals as goal

pub returns : goal.returns
returns g c =
    let e : c.loop-i.i ≡ c.args.front - c.min.result = omega arith in
    λ by k. sought_first by (omega arith) (λ h. ap by (sym e) ∙ c.loop-i.invariant.1 by k (omega arith)) c.by_halves.result (c.by_halves.ensures by (λ i r h p. k i r (omega arith) p))
