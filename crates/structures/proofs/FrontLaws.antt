-- The first entries of a list. A part from 0 to n has `n - 0` entries, which are the first n; when the part comes back with as many, it is again the
-- first n of the whole list. Of a list of 4,096 the first n are the first `min n 4096`. So what holds of the part that is lent holds of the first n.
use mathlib.Core.Path.{◌≡◌, sym, ap, ◌∙◌}
use mathlib.Core.List.{List, [], ◌∷◌, ◌++◌}
use Prim.Native.Nat.{ℕ, zero, suc, ◌-◌, min, ◌≤◌}
use native.Mathlib.Nat.{sub-zero, zero-min, min-zero, suc-min-suc}
use lib.ListN.{length, take, drop}
use lib.Seq.{length-take-le, take_at}

-- ---- a part that is lent, before and after
pub lent_front : (P : List ℕ → List ℕ → Type 0) (n : ℕ) (l front : List ℕ) → n ≤ length l → length front ≡ length (take (n - 0) l) → P (take (n - 0) l) front
    → P (take n l) (take n (front ++ drop (n - 0) l))
lent_front P n l front h e p =
    let same : take (n - 0) l ≡ take n l = ap (λ (k : ℕ). take k l) (sub-zero n) in
    let long : length front ≡ n = e ∙ ap length same ∙ length-take-le n l h in
    rw (← same, take_at front (drop (n - 0) l) n long) p

-- ---- of 4,096 entries
take_min : (n : ℕ) (l : List ℕ) → take (min n (length l)) l ≡ take n l
take_min zero l = ap (λ (k : ℕ). take k l) (zero-min (length l))
take_min (suc n) [] = ap (λ (k : ℕ). take {A = ℕ} k []) (min-zero (suc n))
take_min (suc n) (x ∷ l) = ap (λ (k : ℕ). take k (x ∷ l)) (suc-min-suc n (length l)) ∙ ap (λ (m : List ℕ). x ∷ m) (take_min n l)

take_kept : (n k : ℕ) (l : List ℕ) → k ≡ min n 4096 → length l ≡ 4096 → take k l ≡ take n l
take_kept n k l e long = ap (λ (i : ℕ). take i l) (e ∙ ap (min n) (sym long)) ∙ take_min n l

-- the same list before and after
pub kept_front : (P : List ℕ → List ℕ → Type 0) (n k : ℕ) (l m : List ℕ) → k ≡ min n 4096 → length l ≡ 4096 → length m ≡ length l → P (take k l) (take k m)
    → P (take n l) (take n m)
kept_front P n k l m e long same p = rw (← take_kept n k l e long, ← take_kept n k m e (same ∙ long)) p

-- and a part that is read
pub kept_part : (P : List ℕ → Type 0) (n k : ℕ) (l : List ℕ) → k ≡ min n 4096 → length l ≡ 4096 → P (take (k - 0) l) → P (take n l)
kept_part P n k l e long p = rw (← take_kept n (k - 0) l (sub-zero k ∙ e) long) p
