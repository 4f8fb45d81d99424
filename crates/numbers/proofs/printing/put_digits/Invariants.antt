use mathlib.Core.Path.{◌≡◌}
use lib.ListN.{length}
use lib.Seq.{sets}
use Rattle.numbers.specs.Printing.{last_digits}
use Rattle.numbers.proofs.printing.put_digits.Given as goal

abbrev pub invariant-loop-place : goal.invariant-loop-place
invariant-loop-place l = (length l.out ≡ length l.initial.out) × (sets l.out l.at (last_digits l.place l.rest) ≡ sets l.initial.out l.at (last_digits l.count l.n))
