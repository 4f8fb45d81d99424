-- A lent slice in a contract. A parameter's name stands there for the pair of what it is at the function's entry and at its exit, so that a definition can
-- take the parameter itself, and a contract names each slice once.
use Rattle.std.specs.Prelude.{List}
use Rattle.std.specs.Borrow.{MutBor}
use denote.Triple.Both.{Both}

abbrev pub Slice : Type 0 → Type 0
Slice A = Both (MutBor (List A)) (MutBor (List A))

-- what it holds at both
abbrev pub held : {A : Type 0} → Slice A → Both (List A) (List A)
held s = record { entry = s.entry.now; exit = s.exit.now }
