-- A full main is as long as its entries are many, and an eighth of the room that is left leaves some of it to main.
use mathlib.Core.Path.{◌≡◌, refl, sym, ap, ◌∙◌}
use mathlib.Core.Logic.{inl, inr}
use native.Mathlib.Omega.{arith}
use Prim.Native.Nat.{ℕ, ◌-◌, ◌/◌, ◌≤◌, ◌<◌, min}
use Rattle.gapped_slices.specs.Areas.{many}
use Rattle.building.proofs.stores.widened.Goals as goal

-- the wider main has room, and ends within the room
wider : (n room mid size : ℕ) → n < room → size ≡ min 2048 ((room - n) / 8) → mid ≡ room - size → (n < mid) × (mid ≤ room)
wider n room mid size more s e = (omega (arith, more, s, e), omega (arith, e))

pub returns-then-n-main : goal.returns-then-n-main
returns-then-n-main c = λ l none more.
    let n = c.entries_of-n.ensures (omega (arith, more)) in
    record { lays = l; pocket = none; roomy = omega (arith, n, c.if-n-main.true); main = inl refl }

pub returns : goal.returns
returns c = λ l none more.
    let a = c.args in
    let mid = c.saturating_sub-mid.result in
    let n : c.entries_of-n.result ≡ many a.store.main = c.entries_of-n.ensures (omega (arith, more)) in
    let full : many a.store.main ≡ a.store.main.to = omega (arith, n, none, l.fits, c.if-n-main.false) in
    let left = ap (λ (k : ℕ). min 2048 (k / 8)) (c.saturating_sub.ensures ∙ ap (λ (k : ℕ). a.room - k) (sym full)) in
    let w = wider (many a.store.main) a.room mid c.min-size.result more (c.min-size.ensures ∙ left) c.saturating_sub-mid.ensures in
    record {
      lays = record {
        start = refl;
        middle = refl;
        ordered = w.1;
        inside = omega arith;
        pocket_fits = omega arith;
        fits = omega (arith, n, w.0);
      };
      pocket = refl;
      roomy = omega (arith, n, w.0);
      main = inr (full, λ i. record { from = 0; to = mid; front = n i; behind = 0 });
    }
