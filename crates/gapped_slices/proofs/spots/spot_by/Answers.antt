-- What is found before an entry that is greater is found among all.
use Rattle.std.proofs.Common.{arith, sym, ◌∙◌}
use Rattle.gapped_slices.proofs.SpotLaws.{sought_first}
use Rattle.gapped_slices.proofs.spots.spot_by.Goals as goal

pub returns : goal.returns
returns g c = λ by k. sought_first by (omega arith) (λ h. sym (k _ _ h c.rank.ensures) ∙ c.in-Greater.is) c.back_from.result (c.back_from.ensures by (λ i r h p. k i r (omega arith) p))
