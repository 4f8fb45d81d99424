-- "A line is at most 2,048 bytes without its ending"
use Rattle.std.specs.Prelude.{ℕ}

abbrev pub longest : ℕ
longest = 2048
