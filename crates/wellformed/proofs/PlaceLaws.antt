-- Of two atoms the keys of their residues decide, since a name is below the step of a key.
use Prim.Native.Nat.{ℕ, ◌^◌, ◌≤◌, ◌<◌}
use native.Mathlib.Omega.{arith}
use Rattle.model.specs.Keys.{atom_place}

module _ (k m key name : ℕ) where
  pub by_key : m < 2 ^ 64 → k < key → atom_place k m < atom_place key name
  by_key h g = omega arith

  pub by_name : k ≤ key → key ≤ k → m < name → atom_place k m < atom_place key name
  by_name g h l = omega arith

  pub name_by : k ≤ key → key ≤ k → atom_place k m < atom_place key name → m < name
  name_by g h l = omega arith
