-- A list with its first entries made anew, each from its index.
use Rattle.std.specs.Prelude.{List, ℕ, zero, suc, set}

-- l with `at i` at each index i below n
unfoldable pub filled : {A : Type 0} → (ℕ → A) → ℕ → List A → List A
filled at zero l = l
filled at (suc n) l = set (filled at n l) n (at n)
