-- `any` answers whether one of the codes at the indices is of a polymer.
use mathlib.Core.Path.{◌≡◌, refl, ap, ◌∙◌}
use mathlib.Core.Bool.{Bool, ◌||◌}
use Prim.Native.Nat.{ℕ, zero, suc}
use native.Mathlib.Numerals.{add-one}
use native.Mathlib.Omega.{arith}
use borrow.Author.Tests.{tests}
use Rattle.std.proofs.Common.{rules}
use Rattle.std.proofs.lemmas.Iterator.{YieldsList-from_range}
use Rattle.std.proofs.lemmas.Iterator.Search.{any_from_yields_List}
use Rattle.std.specs.List.{list_any, range_with_len}
use Rattle.model.specs.Lent.{list_from}
use Rattle.model.specs.Lists.{any}
use Rattle.model.specs.Termini.{is_polymer}
use Rattle.wellformed.specs.Slices.{entries}
use Rattle.writer.proofs.polymers.has_polymers.Goals as goal

any_over : (at : ℕ → ℕ) (i n : ℕ) → list_any (λ k. is_polymer (at k)) (range_with_len i n) ≡ any is_polymer (list_from at i n)
unfolding list_from
any_over at i zero = refl
any_over at i (suc n) =
    ap (λ (j : ℕ). is_polymer (at i) || list_any (λ k. is_polymer (at k)) (range_with_len j n)) (add-one i)
    ∙ ap (λ (b : Bool). is_polymer (at i) || b) (any_over at (suc i) n)

pub returns : goal.returns
returns c =
    let at = entries c.args.codes.now in
    any_from_yields_List (λ k. is_polymer (at k)) _ _ _ c.any.ensures.ran (YieldsList-from_range 0 c.args.n c.args.n refl (omega arith)) (λ x r q k. search (rules, tests)) ∙ any_over at 0 c.args.n
