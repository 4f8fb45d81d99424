-- A pattern is NaN's exactly where it is above an infinity's, its sign aside.
use mathlib.Core.Path.{sym, ◌∙◌, subst}
use mathlib.Core.Bool.{Bool, not}
use Prim.Native.Nat.{◌%◌}
use lib.Dec.{T}
use lib.Ieee.{binary64}
use lib.Ieee.Bits.{nan_bits_above}
use borrow.Author.Tests.{le-ltb}
use Rattle.replay.proofs.doubles.read.Goals as goal

pub float_from_bits-result : goal.float_from_bits-result
float_from_bits-result c = let bits = c.bits_of-bits.result in subst (λ (t : Bool). T (not t)) (sym (nan_bits_above binary64 bits ∙ le-ltb 9218868437227405312 (bits % 9223372036854775808) c.if-bits-gt9218868437227405312.false)) tt
