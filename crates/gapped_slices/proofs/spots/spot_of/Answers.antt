-- As `spot_of_key`, over pairs: each of the two is looked at where it stands in its slice.
use Rattle.std.proofs.Common.{◌+◌, ◌-◌, length, get_or, arith}
use Rattle.field_slices.specs.Places.{pairs}
use Rattle.field_slices.proofs.RankLaws.{pair_ranking}
use Rattle.gapped_slices.specs.Gaps.{closed, standing}
use Rattle.gapped_slices.proofs.GapLaws.{length_pairs_closed, pairs_standing}
use Rattle.gapped_slices.proofs.SpotLaws.{spotted_by}
use Rattle.gapped_slices.proofs.spots.spot_of.Goals as goal

pub returns : goal.returns
returns c =
    let a = c.args in
    let keys = a.keys.now in
    let names = a.names.now in
    let gap = length keys - a.behind - a.front in
    let name_gap = length names - a.behind - a.front in
    λ w v. spotted_by pair_ranking (0, 0) (pairs (closed a.front a.behind keys) (closed a.front a.behind names)) (a.key, a.name) (a.front + a.behind)
    (length_pairs_closed a.front a.behind gap name_gap keys names (omega arith) (omega arith))
    (λ i. (get_or keys (standing a.front gap i) 0, get_or names (standing a.front name_gap i) 0))
    (pairs_standing a.front a.behind gap name_gap keys names (omega arith) (omega arith))
    c.spot_by.result
    c.spot_by.ensures
