-- A residue's key taken apart is what it was made of, since each of the lower numbers is below the step of the number above it.
use mathlib.Core.Path.{◌≡◌}
use Prim.Native.Nat.{ℕ, ◌^◌, ◌<◌}
use native.Mathlib.Omega.{arith}
use Rattle.model.specs.Keys.{residue_key, chain_part, sequence_part, code_part}

module _ (place sequence code : ℕ) (h : sequence < 2 ^ 32) (k : code < 2 ^ 8) where
  pub chain_again : chain_part (residue_key place sequence code) ≡ place
  chain_again = omega arith

  pub sequence_again : sequence_part (residue_key place sequence code) ≡ sequence
  sequence_again = omega arith

  pub code_again : code_part (residue_key place sequence code) ≡ code
  code_again = omega arith
