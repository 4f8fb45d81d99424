-- Each of the three reads is inside the array, where it does not matter what stands for an entry past the end.
use lib.Ieee.{nan}
use Rattle.field_slices.specs.Clearing.{zero_float}
use Rattle.field_slices.proofs.PlaceLaws.{get_d_any}
use borrow.Author.Rules.{rules}
use Rattle.model.proofs.taken_out.point_of.Goals as goal

pub returns : goal.returns
returns c =
    let l = c.args.coordinates in
    λ i. record {
      x = get_d_any l 0 nan zero_float (search rules) i;
      y = get_d_any l 1 nan zero_float (search rules) i;
      z = get_d_any l 2 nan zero_float (search rules) i;
    }
