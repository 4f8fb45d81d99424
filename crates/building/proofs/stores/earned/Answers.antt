-- The sum is taken where it can be counted, as the definition says.
use mathlib.Core.Path.{◌≡◌, sym, ap, ◌∙◌}
use mathlib.Core.Bool.{Bool, cond}
use Prim.Native.Nat.{ℕ, ◌+◌, ◌^◌, ◌<◌}
use native.Mathlib.Omega.{arith}
use borrow.Author.Tests.{lt-ltb, le-ltb}
use Rattle.std.specs.Prelude.{Option, None, Some, SomeIff, unwrap_or}
use Rattle.building.specs.Stores.{earned_with}
use Rattle.building.proofs.stores.earned.Goals as goal

taken : (n : ℕ) (o : Option ℕ) → SomeIff o (n + 16 < 2 ^ 64) (n + 16) → unwrap_or o n ≡ earned_with n
unfolding earned_with
taken n None h = sym (ap (λ (t : Bool). cond t n (n + 16)) (lt-ltb 18446744073709551599 n (omega (arith, h))))
taken n (Some m) h = h.1 ∙ sym (ap (λ (t : Bool). cond t n (n + 16)) (le-ltb 18446744073709551599 n (omega (arith, h.0))))

pub returns : goal.returns
returns c = c.unwrap_or.ensures ∙ taken c.args.credit c.checked_add.result c.checked_add.ensures
