-- The first n chains are as many as are counted. A walk that does not end behind all of them ends at the chain; else the walk over all of them decides.
use mathlib.Core.Path.{◌≡◌, sym, ap, ◌∙◌}
use mathlib.Core.List.{List}
use Prim.Native.Nat.{ℕ, ◌+◌, min}
use native.Mathlib.Omega.{arith}
use lib.ListN.{length, take, drop, length-take}
use Rattle.field_slices.proofs.PairLaws.{first_counted}
use Rattle.model.specs.Chains.{chain_place}
use Rattle.building.proofs.ChainLaws.{walked, walked_from}
use Rattle.building.proofs.chains.chain_place.Goals as goal

-- the chains that are looked at, and how many they are
counted : (n count : ℕ) (chains : List ℕ) → count ≡ min n (length chains) → length (take n chains) ≡ count
counted n count chains e = length-take n chains ∙ sym e

same_first : (n count : ℕ) (chains : List ℕ) → count ≡ min n (length chains) → take count chains ≡ take n chains
same_first n count chains e = ap (λ (m : ℕ). take m chains) e ∙ first_counted n chains

pub walk-place-requires : goal.walk-place-requires
walk-place-requires c = (omega (arith, c.min-count.ensures), omega (arith, c.min-from.ensures))

pub returns-then-place-count : goal.returns-then-place-count
returns-then-place-count c =
    let a = c.args in
    let from = c.min-from.result in
    walked_from a.name (take a.n a.chains.now) from c.walk-place.result
    (c.walk-place.ensures ∙ ap (λ (l : List ℕ). from + chain_place a.name (drop from l)) (same_first a.n c.min-count.result a.chains.now c.min-count.ensures)) (omega (arith, counted a.n c.min-count.result a.chains.now c.min-count.ensures, c.if-place-count.true))

pub walk-requires : goal.walk-requires
walk-requires c = (omega (arith, c.min-count.ensures), omega arith)

pub returns : goal.returns
returns c =
    let a = c.args in
    walked a.name (take a.n a.chains.now) c.walk.result (omega (arith, c.walk.ensures, ap (chain_place a.name) (same_first a.n c.min-count.result a.chains.now c.min-count.ensures)))
