-- How far numbers reach: document 01's two limits.
use Rattle.std.specs.Prelude.{ℕ}

-- "at most 15 digits in all, leading zeros counted"
abbrev pub most_digits : ℕ
most_digits = 15

-- "magnitude at most 1,000,000"
abbrev pub farthest : ℕ
farthest = 1000000
