-- All of them pass exactly where those from index i on do.
use mathlib.Core.Path.{sym, ap, ◌∙◌}
use Rattle.ascii.specs.Lists.{every}
use Rattle.wellformed.specs.Slices.{entries, is_residue_named}
use Rattle.wellformed.proofs.FromLaws.{rest_all, every_on, every_fails, every_end}
use Rattle.wellformed.proofs.residues.are_residues_named.Goals as goal

pub loop-i-init : goal.loop-i-init
loop-i-init c = let a = c.args in ap (every (λ k. is_residue_named (entries a.keys.now k) (entries a.names.now k))) (rest_all (λ k. k) a.n)

pub returns-then-not-is_residue_named : goal.returns-then-not-is_residue_named
returns-then-not-is_residue_named c =
    let a = c.args in
    let l = c.loop-i in
    sym (l.invariant ∙ every_fails (λ k. is_residue_named (entries a.keys.now k) (entries a.names.now k)) (λ k. k) a.n l.i c.loop-i-test.true (sym c.is_residue_named.ensures ∙ c.if-not-is_residue_named.true))

pub loop-i-preserved : goal.loop-i-preserved
loop-i-preserved c =
    let a = c.args in
    let l = c.loop-i in
    l.invariant ∙ every_on (λ k. is_residue_named (entries a.keys.now k) (entries a.names.now k)) (λ k. k) a.n l.i c.loop-i-test.true (sym c.is_residue_named.ensures ∙ c.if-not-is_residue_named.false)

pub returns : goal.returns
returns c =
    let a = c.args in
    let l = c.loop-i in
    sym (l.invariant ∙ every_end (λ k. is_residue_named (entries a.keys.now k) (entries a.names.now k)) (λ k. k) a.n l.i c.loop-i-test.false)
