-- A residue that is of neither kind has no position, whatever is before and after it; of another one both are asked.
use mathlib.Core.Path.{sym, ap, ◌∙◌}
use Rattle.names.specs.Positions.{position_code}
use Rattle.model.specs.Neighbours.{position_between}
use Rattle.model.proofs.PlacedBetween.{not_placed, placed_by}
use Rattle.model.proofs.neighbours.position_between.Goals as goal

pub returns-then-not-is_polymer : goal.returns-then-not-is_polymer
unfolding position_between
returns-then-not-is_polymer c =
    let a = c.args in
    c.position_of.ensures ∙ ap position_code (not_placed a.code _ _ _ _ (sym c.is_polymer.ensures ∙ c.if-not-is_polymer.true))

pub returns : goal.returns
returns c =
    let a = c.args in
    c.position_of-2.ensures
    ∙ placed_by a.met a.key a.code _ _ _ c.chain_part-chain.ensures c.ends_chain-last.ensures
