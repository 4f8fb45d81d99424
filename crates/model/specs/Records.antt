-- The records of a finished model, each field the number that stands for it in a lent slice.
use Rattle.std.specs.Prelude.{List, ℕ, Float}
use Rattle.rows.specs.declared.rules.Point3.{Point3}

pub record ResidueRecord : Type 0 where
  -- chain, sequence and insertion code: `residue_key`
  pub key : ℕ
  pub name : ℕ
  pub code : ℕ
  pub category : ℕ
  pub position : ℕ

pub record AtomRecord : Type 0 where
  -- its residue's
  pub key : ℕ
  pub name : ℕ
  pub element : ℕ
  pub position : Point3
  pub occupancy : Float

pub record Model : Type 0 where
  pub chains : List ℕ
  pub residues : List ResidueRecord
  pub atoms : List AtomRecord
