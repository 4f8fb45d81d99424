-- Fifteen digits are below a million times 10 ^ 9; with fewer places the product is the definition's own.
use mathlib.Core.Path.{sym, ap, ◌∙◌}
use Prim.Native.Nat.{ℕ, ◌*◌}
use native.Mathlib.Omega.{arith}
use lib.Dec.{leb}
use borrow.Author.Tests.{le-leb}
use Rattle.numbers.proofs.PowerLaws.{ten_grows}
use Rattle.numbers.proofs.reading.is_near.Goals as goal

pub returns-then-places-ge9 : goal.returns-then-places-ge9
returns-then-places-ge9 c = le-leb 9 c.args.places c.if-places-ge9.true ∙ sym (le-leb c.args.n _ (omega (arith, ten_grows 9 c.args.places c.if-places-ge9.true)))

pub overflow_mul-result : goal.overflow_mul-result
overflow_mul-result c = omega (arith, c.requires.1, ten_grows c.args.places 8 (omega arith))

pub returns-else-places-ge9 : goal.returns-else-places-ge9
returns-else-places-ge9 c = ap (λ (p : ℕ). leb c.args.n (1000000 * p)) c.requires.1
