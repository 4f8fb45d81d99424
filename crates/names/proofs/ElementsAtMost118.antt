-- The number of an element is at most 118: it is the place of a symbol among 119, or 0.
use mathlib.Core.List.{List, [], ◌∷◌}
use mathlib.Core.Bool.{Bool, true, false, cond}
use Prim.Native.Nat.{ℕ, suc, ◌+◌, ◌≤◌}
use Prim.Native.String.{String}
use native.Mathlib.Omega.{arith}
use lib.Dec.{lit≤}
use lib.ListN.{length}
use Rattle.ascii.specs.Bytes.{bytes}
use Rattle.ascii.specs.Words.{same_bytes}
use Rattle.names.specs.Elements.{symbols, element_from, element_of}

within : (n most : ℕ) (s : List ℕ) (l : List String) → n + length l ≤ suc most → element_from n s l ≤ most
unfolding element_from
within n most s [] h = omega arith
within n most s (t ∷ l) h = go (same_bytes s (bytes t)) (within (suc n) most s l (omega arith))
  where
    go : (b : Bool) → element_from (suc n) s l ≤ most → cond b n (element_from (suc n) s l) ≤ most
    go true r = omega arith
    go false r = r

-- ---- the theorem
pub elements_at_most_118 : (s : List ℕ) → element_of s ≤ 118
unfolding element_of symbols
elements_at_most_118 s = within 0 118 s symbols (lit≤ tt)
