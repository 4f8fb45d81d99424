-- The entry is put into the part that is lent; where that is no part of the slice nothing changes.
use Rattle.gapped_slices.proofs.AreaLaws.{put_in}
use Rattle.gapped_slices.proofs.areas.put_in.Goals as goal

pub returns-then-is_area : goal.returns-then-is_area
returns-then-is_area g c =
    let a = c.args in
    let made = c.put in
    put_in a.area a.at a.v a.slice.now made.new.slice (c.is_area.ensures.0 c.if-is_area.true) made.ensures
