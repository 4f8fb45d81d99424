-- Each value is one place of the list; any other is past it.
use mathlib.Core.Path.{sym}
use Prim.Native.Nat.{◌≤◌}
use native.Mathlib.Omega.{arith}
use lib.ListN.{get_or-eq_default}
use Rattle.refusals.specs.declared.details.Column.TheVariants as column
use Rattle.refusals.specs.Details.{all_but_last}
use Rattle.refusals.proofs.details.column_at.Goals as goal

pub returns-in_default : goal.returns-in_default
returns-in_default c =
    let past : 6 ≤ c.args.before = omega arith in
    sym (get_or-eq_default all_but_last column.Z past)
