-- The search for a name in a chain list: its k-th place.
use Rattle.std.specs.Prelude.{cond, ℕ, ◌+◌, ◌-◌, ltb}

-- among so many places, from `first` on and round; k where there is no k-th
unfoldable pub round_at : ℕ → ℕ → ℕ → ℕ
round_at many first k = cond (ltb k many) (cond (ltb k (many - first)) (first + k) (k - (many - first))) k
