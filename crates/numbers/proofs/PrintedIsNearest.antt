-- What is printed of a finite double is the number of units nearest its magnitude, ties to even: `units_of` is `closest`, which is the nearest.
use mathlib.Core.Bool.{Bool}
use Prim.Native.Nat.{ℕ, ◌*◌, ◌^◌}
use lib.IntN.{ℤ}
use lib.Ieee.{fin, up, down}
use lib.Ieee.Fits.{down_pos}
use Rattle.numbers.specs.Nearest.{NearestWhole}
use Rattle.numbers.specs.Rounding.{units_of}
use Rattle.numbers.proofs.ClosestLaw.{closest_is_nearest}

-- the double of magnitude m * up e / down e, in units of the last of so many places
pub printed_is_nearest : (places : ℕ) (s : Bool) (m : ℕ) (e : ℤ) → NearestWhole (m * up e * 10 ^ places) (down e) (units_of places (fin s m e))
unfolding units_of
printed_is_nearest places s m e = closest_is_nearest (m * up e * 10 ^ places) (down e) (down_pos e)
