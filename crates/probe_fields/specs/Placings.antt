-- What became of a text that was put into a buffer, in two numbers.
use Rattle.std.specs.Prelude.{ℕ, Result, Ok, Err}
use Rattle.ascii.specs.declared.output.NoRoom.{NoRoom}

abbrev pub outcome_of_placed : Result ℕ NoRoom → ℕ
outcome_of_placed (Err no_room) = 1
outcome_of_placed (Ok next) = 2

abbrev pub amount_of_placed : Result ℕ NoRoom → ℕ
amount_of_placed (Err no_room) = no_room.needed
amount_of_placed (Ok next) = next
