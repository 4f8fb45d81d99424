-- A text has no more lines than bytes, since each byte makes one line more at most.
use mathlib.Core.List.{List, [], ◌∷◌}
use mathlib.Core.Bool.{Bool, true, false, ◌&&◌, cond}
use Prim.Native.Nat.{ℕ, suc, ◌≤◌}
use native.Mathlib.Omega.{arith}
use lib.Dec.{eqb}
use lib.ListN.{length}
use Rattle.ascii.specs.Bytes.{first}
use Rattle.lines.specs.Lines.{onto, lines_of}

onto_fits : (b : ℕ) (lines : List (List ℕ)) → length (onto b lines) ≤ suc (length lines)
onto_fits b [] = omega arith
onto_fits b (line ∷ lines) = omega arith

pub lines_fit : (text : List ℕ) → length (lines_of text) ≤ length text
unfolding lines_of
lines_fit [] = omega arith
lines_fit (b ∷ bs) = go (eqb b 10) (eqb b 13 && eqb (first bs) 10) (lines_fit bs)
  where
    go : (t u : Bool) → length (lines_of bs) ≤ length bs → length (cond t ([] ∷ lines_of bs) (cond u (lines_of bs) (onto b (lines_of bs)))) ≤ suc (length bs)
    go true u h = omega arith
    go false true h = omega arith
    go false false h = omega (arith, onto_fits b (lines_of bs))
