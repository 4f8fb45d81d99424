-- An act is at most one row.
use Prim.{Unit, tt}
use Prim.Native.Nat.{ℕ, suc, ◌≤◌}
use native.Mathlib.Omega.{arith}
use Rattle.std.specs.Prelude.{Option, Some, None}
use Rattle.refusals.specs.declared.details.RecordKind.{RecordKind}
use Rattle.model.specs.Fold.{State, step}
use Rattle.model.specs.Room.{lacking}
use Rattle.model.specs.Taken.{site}
use Rattle.model.specs.declared.room.Room.{Room}
use Rattle.acts.specs.declared.act.Act.{Act}
use Rattle.acts.specs.declared.act.Act.TheVariants.{Pass, Skip, Keep, Refuse}
use Rattle.acts.specs.Making.{Making, going, halted, within, done_at}

-- no more than n rows
abbrev pub RowsWithin : ℕ → Making → Type 0
RowsWithin n (going st) = st.rows ≤ n
RowsWithin n (halted why) = Unit {0}

pub rows_grow : (room : Room) (st : State) (number : ℕ) (act : Act) → RowsWithin (suc st.rows) (done_at room st number act)
unfolding step
rows_grow room st number Pass = omega arith
rows_grow room st number Skip = omega arith
rows_grow room st number (Keep s) = go (lacking room st (site s))
  where
    go : (lack : Option RecordKind) → RowsWithin (suc st.rows) (within number lack (going (step st (site s))))
    go None = omega arith
    go (Some kind) = tt
rows_grow room st number (Refuse why) = tt
