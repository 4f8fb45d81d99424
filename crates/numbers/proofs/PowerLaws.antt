-- Powers of ten: the next one, their order, and the table of the sixteen that both a 64-bit number and a double hold.
use mathlib.Core.Path.{◌≡◌, refl, ap, ◌∙◌}
use mathlib.Core.List.{List, [], ◌∷◌, map}
use Prim.Native.Nat.{ℕ, ◌+◌, ◌*◌, ◌^◌, ◌≤◌, ◌<◌}
use native.Mathlib.Nat.{pow-suc, pow-le-pow_right, zero-lt-suc, one-le-pow}
use native.Mathlib.Numerals.{add-one}
use native.Mathlib.Omega.{arith}
use lib.ListN.{get_or}
use Rattle.std.specs.List.{range_with_len}
use Rattle.std.proofs.lemmas.List.FromFn.{get_or-map-range_with_len}

pub ten_next : (k : ℕ) → 10 ^ (k + 1) ≡ 10 ^ k * 10
ten_next k = rw (add-one, pow-suc)

pub ten_grows : (i j : ℕ) → i ≤ j → 10 ^ i ≤ 10 ^ j
ten_grows i j h = pow-le-pow_right (zero-lt-suc 9) h

pub ten_fits : (k : ℕ) → k ≤ 15 → 10 ^ k ≤ 1000000000000000
ten_fits k h = ten_grows k 15 h

pub ten_positive : (k : ℕ) → 0 < 10 ^ k
ten_positive k = one-le-pow k 10 (zero-lt-suc 9)

-- ---- the table of the first sixteen, by one computation
abbrev powers : List ℕ
powers =
    1 ∷ 10 ∷ 100 ∷ 1000 ∷ 10000 ∷ 100000 ∷ 1000000 ∷ 10000000 ∷ 100000000 ∷ 1000000000 ∷ 10000000000 ∷ 100000000000 ∷ 1000000000000 ∷ 10000000000000 ∷ 100000000000000
    ∷ 1000000000000000 ∷ []

powers_are : powers ≡ map (λ k. 10 ^ k) (range_with_len 0 16)
powers_are = refl

pub power_at : (k : ℕ) → k ≤ 15 → get_or powers k 0 ≡ 10 ^ k
power_at k h = ap (λ (l : List ℕ). get_or l k 0) powers_are ∙ get_or-map-range_with_len (λ k. 10 ^ k) 0 16 k k 0 (omega arith) (omega arith)
