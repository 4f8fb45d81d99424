-- A double to so many places: its exact value to the nearest unit of the last place, exact ties to an even last digit.
use Rattle.std.specs.Prelude.{ℕ, ◌*◌, ◌^◌, Bool, false, leb, Float}
use Rattle.std.specs.Float.{nan, inf, fin}
use Rattle.std.specs.Float.Ieee.{up, down}
use Rattle.std.specs.Float.Ieee.Nearest.{closest}
use Rattle.numbers.specs.Limits.{farthest}

-- finite, and of a magnitude that is written: a finite double's magnitude is m * up e / down e
unfoldable pub printable : Float → Bool
printable nan = false
printable (inf negative) = false
printable (fin negative m e) = leb (m * up e) (farthest * down e)

-- the magnitude in units of the last of so many places; `closest` is the nearest whole number to a fraction, ties to even
unfoldable pub units_of : ℕ → Float → ℕ
units_of places nan = 0
units_of places (inf negative) = 0
units_of places (fin negative m e) = closest (m * up e * 10 ^ places) (down e)

-- -0.0 is negative too
unfoldable pub is_negative : Float → Bool
is_negative nan = false
is_negative (inf negative) = negative
is_negative (fin negative m e) = negative
