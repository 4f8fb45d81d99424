-- A double that is equal to itself is no NaN, so that it has bits.
use mathlib.Core.Path.{◌≡◌, sym, subst}
use mathlib.Core.Bool.{true, not}
use lib.Dec.{T}
use lib.Ieee.{Float, nan, inf, fin, eq, is_nan}
use Rattle.replay.proofs.records_said.say_double.Goals as goal

equal_to_itself : (x : Float) → eq x x ≡ true → T (not (is_nan x))
unfolding eq is_nan
equal_to_itself nan e = subst T (sym e) tt
equal_to_itself (inf s) e = tt
equal_to_itself (fin s m d) e = tt

pub float_to_bits-x : goal.float_to_bits-x
float_to_bits-x g c = equal_to_itself _ c.if-x.true
