-- What the last arm of a match knows of the number: it is none of the keys of the arms before.
use mathlib.Core.Path.{◌≡◌}
use mathlib.Core.List.{List, [], ◌∷◌}
use Prim.Native.Nat.{ℕ}

-- N holds, and x is none of the keys
abbrev pub Missed : Type 0 → List ℕ → ℕ → Type 0
Missed N [] x = N
Missed N (k ∷ l) x = Missed (N × (x ≡ k → ⊥)) l x

missed_before : (N : Type 0) (l : List ℕ) (x : ℕ) → Missed N l x → N
missed_before N [] x h = h
missed_before N (k ∷ l) x h = (missed_before (N × (x ≡ k → ⊥)) l x h).0

pub missed_first : (N : Type 0) (k : ℕ) (l : List ℕ) (x : ℕ) → Missed N (k ∷ l) x → x ≡ k → ⊥
missed_first N k l x h = (missed_before (N × (x ≡ k → ⊥)) l x h).1
