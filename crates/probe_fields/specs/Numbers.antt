-- The parts of the numbers' answers, as a caller in another language gets them.
use Rattle.std.specs.Prelude.{ℕ, Float, Result, Ok, Err}
use Rattle.std.specs.Float.{binary64}
use Rattle.std.specs.Float.Ieee.{of_bits}
use Rattle.numbers.specs.declared.reading.NumberError.{NumberError}
use Rattle.numbers.specs.declared.reading.NumberError.TheVariants.{OutsideGrammar, BeyondReach}
use Rattle.numbers.specs.declared.printing.PrintError.{PrintError}
use Rattle.numbers.specs.declared.printing.PrintError.TheVariants as print_error

abbrev pub kind_of : Result Float NumberError → ℕ
kind_of (Err OutsideGrammar) = 0
kind_of (Err BeyondReach) = 1
kind_of (Ok x) = 2

-- +0.0 where there is none
abbrev pub value_of : Result Float NumberError → Float
value_of (Err why) = of_bits binary64 0
value_of (Ok x) = x

abbrev pub outcome_of : Result ℕ PrintError → ℕ
outcome_of (Err print_error.BeyondReach) = 0
outcome_of (Err (print_error.NoRoom no_room)) = 1
outcome_of (Ok next) = 2

abbrev pub amount_of : Result ℕ PrintError → ℕ
amount_of (Err print_error.BeyondReach) = 0
amount_of (Err (print_error.NoRoom no_room)) = no_room.needed
amount_of (Ok next) = next
