-- A column that is found absent is one of those that were asked.
use mathlib.Core.Path.{◌≡◌, sym, ap}
use mathlib.Core.List.{List, [], ◌∷◌}
use mathlib.Core.Bool.{Bool, true, false, cond, false≢true}
use Prim.Native.Nat.{ℕ, ◌+◌, ◌<◌}
use native.Mathlib.Omega.{arith}
use lib.ListN.{length}
use Rattle.std.specs.Prelude.{Option, Some, is_some, unwrap_or}
use Rattle.rows.specs.Columns.{is_absent}
use Rattle.rows.specs.Reach.{first_absent}

pub absent_within : (k : ℕ) (columns : List ℕ) (i : ℕ) → Some i ≡ first_absent k columns → i < k + length columns
unfolding first_absent
absent_within k [] i e = absurd (false≢true (ap is_some (sym e)))
absent_within k (column ∷ columns) i e = go (is_absent column) (absent_within (k + 1) columns i) e
  where
    go : (absent : Bool) → (Some i ≡ first_absent (k + 1) columns → i < k + 1 + length columns) → Some i ≡ cond absent (Some k) (first_absent (k + 1) columns) → i < k + length (column ∷ columns)
    go true later e = let here : i ≡ k = ap (λ (o : Option ℕ). unwrap_or o 0) e in omega arith
    go false later e = omega (arith, later e)
