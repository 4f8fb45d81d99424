-- What is said of a slice of T and its machine values (`Denote/Slice.antt`) tells the values, of a `&mut [T]` as of a `&[T]`.
--     slice_tells T    a slice's entry in a `Tellss`
-- Assumes nothing.
use mathlib.Core.Path.{◌≡◌}
use mathlib.Core.List.{List}
use lib.ListN.{length}
use mir.Val.{Val}
use denote.RattleType.{RattleType}
use denote.Ref.{Bor}
use denote.Slice.{Room, shr_slice_vals}

pub slice_tells : (R : RattleType) (x : Bor (List R.Denot)) (vs : List Val) → ((vs ≡ shr_slice_vals x) × Room R (length x.now)) × (Unit {0} × Unit {0}) → vs ≡ shr_slice_vals x
slice_tells R x vs p = p.0.0
