-- What is left of the residues from their index on runs through what is left of the chains exactly where all of them run through all.
use mathlib.Core.Path.{sym, ◌∙◌}
use Rattle.model.specs.Keys.{chain_part}
use Rattle.wellformed.specs.Slices.{entries}
use Rattle.wellformed.proofs.RunLaws.{runs_all, runs_on, runs_fail, runs_end}
use Rattle.wellformed.proofs.runs.chains_run.Goals as goal

pub loop-i-init : goal.loop-i-init
loop-i-init c = let a = c.args in runs_all (λ k. chain_part (entries a.residue_keys.now k)) (λ k. k) a.residue_count a.chain_count

pub returns-then-next-from : goal.returns-then-next-from
returns-then-next-from c =
    let a = c.args in
    let l = c.loop-i in
    sym (l.invariant ∙ runs_fail (λ k. chain_part (entries a.residue_keys.now k)) (λ k. k) a.residue_count a.chain_count l.from l.i c.loop-i-test.true _ c.pass_chain-next.ensures c.if-next-from.true)

pub loop-i-preserved : goal.loop-i-preserved
loop-i-preserved c =
    let a = c.args in
    let l = c.loop-i in
    l.invariant ∙ runs_on (λ k. chain_part (entries a.residue_keys.now k)) (λ k. k) a.residue_count a.chain_count l.from l.i c.loop-i-test.true _ c.pass_chain-next.ensures c.if-next-from.false

pub returns : goal.returns
returns c =
    let a = c.args in
    let l = c.loop-i in
    sym (l.invariant ∙ runs_end (λ k. chain_part (entries a.residue_keys.now k)) (λ k. k) a.residue_count a.chain_count l.from l.i c.loop-i-test.false)
