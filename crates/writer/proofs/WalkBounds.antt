-- A walk over the atoms enters at most a residue at each, and counts it at most once: so it stays among small numbers in any model, well formed or not.
use mathlib.Core.Bool.{Bool, true, false, cond}
use Prim.Native.Nat.{ℕ, suc, ◌+◌, ◌≤◌}
use native.Mathlib.Omega.{arith}
use lib.Dec.{eqb}
use Rattle.model.specs.Lists.{count}
use Rattle.model.specs.Records.{ResidueRecord}
use Rattle.model.specs.TakenOut.{residue_out}
use Rattle.model.specs.Termini.{is_polymer}
use Rattle.model.specs.declared.taken_out.Residue.{Residue}
use Rattle.writer.specs.PolymerNumbers.{number_after, entered_at, begun, walked_to}
use Rattle.writer.specs.declared.polymer_numbers.Walk.{Walk}

pub at_most_one : (b : Bool) → count b ≤ 1
at_most_one true = omega arith
at_most_one false = omega arith

pub one_more_at_most : (number chain : ℕ) (r : Residue) → number_after number chain r ≤ number + 1
unfolding number_after
one_more_at_most number chain r = go (eqb r.chain chain)
  where
    go : (b : Bool) → cond b number 0 + count (is_polymer r.code) ≤ number + 1
    go true = omega (arith, at_most_one (is_polymer r.code))
    go false = omega (arith, at_most_one (is_polymer r.code))

-- before the atom at index i
pub record Bounded (i : ℕ) (w : Walk) : Type 0 where
  pub entered : w.index ≤ i
  pub counted : w.number ≤ i + 1

module _ (at : ℕ → ResidueRecord) where
  pub bounded_first : Bounded 0 (begun at)
  bounded_first = record { entered = omega arith; counted = omega (arith, one_more_at_most 0 0 (residue_out (at 0))) }

  pub bounded_next : (i : ℕ) (w : Walk) (key : ℕ) → Bounded i w → Bounded (i + 1) (walked_to at w key)
  unfolding walked_to
  bounded_next i w key b = go (eqb (at w.index).key key)
    where
      go : (t : Bool) → Bounded (i + 1) (cond t w (entered_at at (suc w.index) w.number w.residue.chain))
      go true = record { entered = omega (arith, b.entered); counted = omega (arith, b.counted) }
      go false = record {
        entered = omega (arith, b.entered);
        counted = omega (arith, b.counted, one_more_at_most w.number w.residue.chain (residue_out (at (suc w.index))));
      }
