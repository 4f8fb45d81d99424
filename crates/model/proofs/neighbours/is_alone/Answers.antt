-- Where the index is the last one or past it no entry is behind it; else the one behind it is read.
use mathlib.Core.Path.{sym, ap, ◌∙◌}
use mathlib.Core.Bool.{not}
use Prim.Native.Nat.{ℕ}
use native.Mathlib.Numerals.{add-one}
use native.Mathlib.Omega.{arith}
use lib.Dec.{eqb}
use lib.ListN.{get_or}
use borrow.Author.Tests.{lt-ltb}
use Rattle.model.proofs.WalkTurns.{alone_at_end, alone_before}
use Rattle.model.proofs.neighbours.is_alone.Goals as goal

pub returns-then-saturating_sub-lt2 : goal.returns-then-saturating_sub-lt2
returns-then-saturating_sub-lt2 c = let a = c.args in rw (lt-ltb c.saturating_sub.result 2 (omega arith)) (sym (alone_at_end a.key a.keys.now a.n a.at (omega arith)))

pub returns-else-saturating_sub-lt2 : goal.returns-else-saturating_sub-lt2
returns-else-saturating_sub-lt2 c =
    let a = c.args in
    ap (λ (i : ℕ). not (eqb (get_or a.keys.now i 0) a.key)) (add-one a.at) ∙ sym (alone_before a.key a.keys.now a.n a.at (omega arith))
