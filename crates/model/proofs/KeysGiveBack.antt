-- A residue's key gives back its chain's place and its insertion code, and an atom's place its residue's key and its name: each of the lower numbers is
-- below the step of the number above it.
use mathlib.Core.Path.{◌≡◌}
use mathlib.Core.List.{List}
use Prim.Native.Nat.{ℕ, ◌^◌}
use native.Mathlib.Nat.{div-add-mod'}
use lib.Arith.{digits_div, digits_mod}
use Rattle.rows.specs.declared.rules.Site.{Site}
use Rattle.model.specs.Chains.{chain_place}
use Rattle.model.specs.Finished.{key_part, name_part}
use Rattle.model.specs.Keys.{atom_place, residue_at, atom_at, chain_part, code_part}
use Rattle.model.specs.Proper.{Proper}
use Rattle.model.proofs.KeyTakenApart.{chain_again, code_again}

-- ---- the parts of a site's key and place
module _ (chains : List ℕ) (s : Site) (p : Proper s) where
  pub chain_of_key : chain_part (residue_at chains s) ≡ chain_place s.chain chains
  unfolding residue_at
  chain_of_key = chain_again (chain_place s.chain chains) s.sequence s.insertion_code p.sequence p.code

  pub code_of_key : code_part (residue_at chains s) ≡ s.insertion_code
  unfolding residue_at
  code_of_key = code_again (chain_place s.chain chains) s.sequence s.insertion_code p.sequence p.code

  pub key_of_place : key_part (atom_at chains s) ≡ residue_at chains s
  unfolding atom_at
  key_of_place = digits_div (residue_at chains s) {m = 2 ^ 64} p.atom

  pub name_of_place : name_part (atom_at chains s) ≡ s.atom
  unfolding atom_at
  name_of_place = digits_mod (residue_at chains s) {m = 2 ^ 64} p.atom

-- a place is made of its two parts
pub whole_place : (place : ℕ) → atom_place (key_part place) (name_part place) ≡ place
whole_place place = div-add-mod' place (2 ^ 64)
