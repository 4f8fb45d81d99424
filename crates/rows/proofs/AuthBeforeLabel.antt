-- Where the auth header exists, what stands in its column is taken, `.` or not; only where it does not exist is the label column asked for.
-- The choice is made of the columns alone, before any row is seen.
use mathlib.Core.Path.{◌≡◌, refl, ap}
use mathlib.Core.List.{List}
use mathlib.Core.Bool.{Bool, cond}
use Prim.Native.Nat.{ℕ}
use borrow.Author.Tests.{ne_eqb}
use Rattle.tokens.specs.Tokens.{token_at}
use Rattle.token_values.specs.Sequence.{sequence_of}
use Rattle.rows.specs.declared.columns.Columns.{Columns}
use Rattle.rows.specs.Columns.{absent, column_of, chosen}
use Rattle.rows.specs.Fields.{name_of, chain_of, fields_of}

pub auth_chosen : (auth label : ℕ) → (auth ≡ absent → ⊥) → chosen auth label ≡ auth
auth_chosen auth label n = ap (λ (t : Bool). cond t label auth) (ne_eqb auth absent n)

pub label_chosen : (label : ℕ) → chosen absent label ≡ label
label_chosen label = refl

module _ (columns : Columns) (line : List ℕ) where
  abbrev column : ℕ → ℕ
  column item = column_of columns item

  pub atom_by_auth : (column 1 ≡ absent → ⊥) → (fields_of columns line).atom ≡ name_of (token_at line (column 1))
  unfolding fields_of
  atom_by_auth n = ap (λ (k : ℕ). name_of (token_at line k)) (auth_chosen (column 1) (column 2) n)

  pub residue_by_auth : (column 3 ≡ absent → ⊥) → (fields_of columns line).residue ≡ name_of (token_at line (column 3))
  unfolding fields_of
  residue_by_auth n = ap (λ (k : ℕ). name_of (token_at line k)) (auth_chosen (column 3) (column 4) n)

  pub chain_by_auth : (column 5 ≡ absent → ⊥) → (fields_of columns line).chain ≡ chain_of (token_at line (column 5))
  unfolding fields_of
  chain_by_auth n = ap (λ (k : ℕ). chain_of (token_at line k)) (auth_chosen (column 5) (column 6) n)

  pub sequence_by_auth : (column 7 ≡ absent → ⊥) → (fields_of columns line).sequence ≡ sequence_of (token_at line (column 7))
  unfolding fields_of
  sequence_by_auth n = ap (λ (k : ℕ). sequence_of (token_at line k)) (auth_chosen (column 7) (column 8) n)
