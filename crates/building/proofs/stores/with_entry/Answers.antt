-- Where one more can be counted, neither the sum nor the difference is cut off.
use mathlib.Core.Path.{◌≡◌, ap, ◌∙◌}
use native.Mathlib.Omega.{arith}
use Prim.Native.Nat.{ℕ, suc, ◌-◌}
use Rattle.building.proofs.stores.with_entry.Goals as goal

pub returns : goal.returns
returns c = λ countable within.
    let a = c.args in
    let front : c.saturating_add.result ≡ suc a.at = omega (arith, c.saturating_add.ensures, countable, within) in
    let behind = c.saturating_sub.ensures ∙ ap (λ (n : ℕ). n - a.at) (c.entries_of.ensures (omega (arith, countable))) in
    λ i. record { from = a.area.from; to = a.area.to; front = front i; behind = behind i }
