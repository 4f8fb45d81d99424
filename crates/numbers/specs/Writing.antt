-- A double's text put at a place of a lent buffer. What isn't finite or is beyond 1,000,000 in magnitude has no text, and changes nothing.
use Rattle.std.specs.Prelude.{ℕ, List, cond, Float, Result, Ok, Err}
use Rattle.ascii.specs.Output.{placed_of, buffer_after}
use Rattle.ascii.specs.declared.output.NoRoom.{NoRoom}
use Rattle.numbers.specs.declared.printing.PrintError.{PrintError}
use Rattle.numbers.specs.declared.printing.PrintError.TheVariants as print_error
use Rattle.numbers.specs.Rounding.{printable}
use Rattle.numbers.specs.Printing.{text_of}

-- what became of a text, said of a double's
abbrev pub as_printed : Result ℕ NoRoom → Result ℕ PrintError
as_printed (Ok next) = Ok next
as_printed (Err no_room) = Err (print_error.NoRoom no_room)

unfoldable pub printed_of : ℕ → Float → List ℕ → ℕ → Result ℕ PrintError
printed_of places x buffer at = cond (printable x) (as_printed (placed_of buffer at (text_of places x))) (Err print_error.BeyondReach)

unfoldable pub after_printing : ℕ → Float → List ℕ → ℕ → List ℕ
after_printing places x buffer at = cond (printable x) (buffer_after buffer at (text_of places x)) buffer
