-- All before one that is greater are less; and so are all before those that are left.
use Rattle.std.proofs.Common.{◌+◌, ◌≡◌, ℕ, arith, sym, subst, ◌∙◌}
use Rattle.gapped_slices.specs.Ranks.{FirstLess}
use Rattle.gapped_slices.proofs.spots.on_from.Goals as goal

pub returns-in-Greater : goal.returns-in-Greater
returns-in-Greater g c = λ by k. (omega arith, record { before = c.loop-i.invariant by k; behind = λ h. sym (k _ _ h c.rank.ensures) ∙ c.in-Greater.is })

pub by_halves-requires-clause-less : goal.by_halves-requires-clause-less
by_halves-requires-clause-less g c =
    let e : c.loop-i.i ≡ c.args.front + c.min.result = omega arith in
    λ by k. subst (λ (i : ℕ). FirstLess by c.args.many i) e (c.loop-i.invariant by k)
