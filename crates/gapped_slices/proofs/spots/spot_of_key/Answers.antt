-- Each entry is looked at where it stands, so what is found among the entries, the gap closed, is found in the slice.
use Rattle.std.proofs.Common.{◌+◌, ◌-◌, length, get_or, arith}
use Rattle.field_slices.proofs.RankLaws.{number_ranking}
use Rattle.gapped_slices.specs.Gaps.{closed, standing}
use Rattle.gapped_slices.proofs.GapLaws.{length_closed, closed_standing}
use Rattle.gapped_slices.proofs.SpotLaws.{spotted_by}
use Rattle.gapped_slices.proofs.spots.spot_of_key.Goals as goal

pub returns : goal.returns
returns c =
    let a = c.args in
    let keys = a.keys.now in
    let gap = length keys - a.behind - a.front in
    λ w. spotted_by number_ranking 0 (closed a.front a.behind keys) a.key (a.front + a.behind)
    (length_closed a.front a.behind keys w)
    (λ i. get_or keys (standing a.front gap i) 0)
    (λ i h. closed_standing a.front a.behind gap keys (omega arith) i 0 h)
    c.spot_by.result
    c.spot_by.ensures
