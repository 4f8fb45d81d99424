-- What is left of the atoms from their index on runs through what is left of the residues exactly where all of them run through all.
use mathlib.Core.Path.{sym, ◌∙◌}
use Rattle.wellformed.specs.Slices.{entries}
use Rattle.wellformed.proofs.RunLaws.{runs_all, runs_on, runs_fail, runs_end}
use Rattle.wellformed.proofs.runs.residues_run.Goals as goal

pub loop-i-init : goal.loop-i-init
loop-i-init c = let a = c.args in runs_all (entries a.atom_keys.now) (entries a.residue_keys.now) a.atom_count a.residue_count

pub returns-then-next-from : goal.returns-then-next-from
returns-then-next-from c =
    let a = c.args in
    let l = c.loop-i in
    sym (l.invariant ∙ runs_fail (entries a.atom_keys.now) (entries a.residue_keys.now) a.atom_count a.residue_count l.from l.i c.loop-i-test.true _ c.pass_residue-next.ensures c.if-next-from.true)

pub loop-i-preserved : goal.loop-i-preserved
loop-i-preserved c =
    let a = c.args in
    let l = c.loop-i in
    l.invariant ∙ runs_on (entries a.atom_keys.now) (entries a.residue_keys.now) a.atom_count a.residue_count l.from l.i c.loop-i-test.true _ c.pass_residue-next.ensures c.if-next-from.false

pub returns : goal.returns
returns c =
    let a = c.args in
    let l = c.loop-i in
    sym (l.invariant ∙ runs_end (entries a.atom_keys.now) (entries a.residue_keys.now) a.atom_count a.residue_count l.from l.i c.loop-i-test.false)
