-- The three cases of `round_at`: past the last, on from the first place, and from the start again.
use Rattle.std.proofs.Common.{◌≡◌, ◌-◌, ℕ, min, sym, ◌∙◌, ap, arith}
use Rattle.chains.proofs.PlaceLaws.{round_on, round_again, round_past}
use Rattle.chains.proofs.places.round.Goals as goal

-- how many places there are from the first on, where n of them are before it
ahead : (first many n : ℕ) → n ≡ min first many → many - n ≡ many - first
ahead first many n e = omega arith

pub returns-then-many-k : goal.returns-then-many-k
returns-then-many-k c = let a = c.args in sym (round_past a.many a.first a.k c.if-many-k.true)

pub returns-then-k-ahead : goal.returns-then-k-ahead
returns-then-k-ahead c =
    let a = c.args in
    sym (round_on a.many a.first a.k (omega arith) (omega (arith, ahead a.first a.many _ c.min.ensures)))

pub returns-else-k-ahead : goal.returns-else-k-ahead
returns-else-k-ahead c =
    let a = c.args in
    let e = ahead a.first a.many _ c.min.ensures in
    ap (λ (m : ℕ). a.k - m) e ∙ sym (round_again a.many a.first a.k (omega arith) (omega (arith, e)))
