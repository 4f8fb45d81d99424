-- The gap is moved in the part that is lent; where that is no part of the slice nothing changes.
use Rattle.gapped_slices.proofs.AreaLaws.{moved_in}
use Rattle.gapped_slices.proofs.areas.move_in.Goals as goal

pub returns-then-is_area : goal.returns-then-is_area
returns-then-is_area g c =
    let a = c.args in
    let made = c.move_gap in
    moved_in a.area a.front a.slice.now made.new.slice (c.is_area.ensures.0 c.if-is_area.true) made.ensures
