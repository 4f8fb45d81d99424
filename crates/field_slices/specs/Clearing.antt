-- A list with every entry zero from an index on, and the zero of each type of entry that is no number of ℕ.
use Rattle.std.specs.Prelude.{List, ◌++◌, ℕ, ◌-◌, Float, length, take, replicate}
use Rattle.std.specs.Float.Ieee.{of_bits}
use Rattle.std.specs.Float.{binary64}

-- l with z for every entry from index keep on
unfoldable pub cleared : {A : Type 0} → A → ℕ → List A → List A
cleared z keep l = take keep l ++ replicate (length l - keep) z

-- 0.0, whose bits are all zero
abbrev pub zero_float : Float
zero_float = of_bits binary64 0

abbrev pub zero_point : List Float
zero_point = replicate 3 zero_float
