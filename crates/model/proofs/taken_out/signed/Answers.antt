-- The difference is the definition's, and fits 32 bits: so it fits 64 bits, and each cast keeps it.
use mathlib.Core.Path.{◌≡◌, sym, ap, ◌∙◌, subst}
use Prim.Native.Nat.{ℕ, ◌^◌, ◌<◌}
use native.Mathlib.Omega.{arith}
use lib.IntN.{ℤ, pos, ◌-ℤ◌}
use mir.Syntax.{w32, w64}
use mir.Val.{SFits, to_z, of_z}
use mir.ValLaws.{to_z_pos, to_z-of_z}
use Rattle.model.specs.TakenOut.{signed}
use Rattle.model.proofs.SignedSequence.{signed_fits}
use Rattle.model.proofs.taken_out.signed.Goals as goal

module _ (n : ℕ) (h : n < 2 ^ 32) where
  difference : to_z w64 n -ℤ pos (2 ^ 31) ≡ signed n
  unfolding signed
  difference = ap (λ (z : ℤ). z -ℤ pos (2 ^ 31)) (to_z_pos w64 n (omega arith))

  difference_fits : SFits w64 (to_z w64 n -ℤ pos (2 ^ 31))
  difference_fits = subst (SFits w64) (sym difference) (record { sfits = omega (arith, (signed_fits n h).sfits) })

  kept : to_z w64 (of_z w64 (to_z w64 n -ℤ pos (2 ^ 31))) ≡ signed n
  kept = to_z-of_z w64 _ difference_fits ∙ difference

pub overflow_sub-result : goal.overflow_sub-result
overflow_sub-result c = difference_fits c.args.sequence c.ranges.sequence.fits

pub overflow_cast-result-2 : goal.overflow_cast-result-2
overflow_cast-result-2 c = subst (SFits w32) (sym (kept c.args.sequence c.ranges.sequence.fits)) (signed_fits c.args.sequence c.ranges.sequence.fits)

pub returns : goal.returns
returns c = to_z-of_z w32 _ (overflow_cast-result-2 c) ∙ kept c.args.sequence c.ranges.sequence.fits
