-- All of them pass exactly where those from index i on do.
use mathlib.Core.Path.{sym, ap, ◌∙◌}
use mathlib.Core.List.{[]}
use native.Mathlib.Omega.{arith}
use lib.ListN.{get_or}
use Rattle.field_slices.specs.Clearing.{zero_point}
use Rattle.field_slices.proofs.PlaceLaws.{get_d_any}
use Rattle.ascii.specs.Lists.{every}
use Rattle.wellformed.specs.Slices.{entries, is_atom_well}
use Rattle.wellformed.proofs.FromLaws.{rest_all, every_on, every_fails, every_end}
use Rattle.wellformed.proofs.atoms.are_atoms_well.Goals as goal

pub loop-i-init : goal.loop-i-init
loop-i-init c = let a = c.args in ap (every (λ k. is_atom_well (entries a.records.atom_names.now k) (entries a.records.elements.now k) (get_or a.records.positions.now k zero_point))) (rest_all (λ k. k) a.n)

pub returns-then-not-is_atom_well : goal.returns-then-not-is_atom_well
returns-then-not-is_atom_well c =
    let a = c.args in
    let l = c.loop-i in
    sym (l.invariant ∙ every_fails (λ k. is_atom_well (entries a.records.atom_names.now k) (entries a.records.elements.now k) (get_or a.records.positions.now k zero_point)) (λ k. k) a.n l.i c.loop-i-test.true (ap (is_atom_well (entries a.records.atom_names.now l.i) (entries a.records.elements.now l.i)) (get_d_any a.records.positions.now l.i zero_point [] (omega arith)) ∙ sym c.is_atom_well.ensures ∙ c.if-not-is_atom_well.true))

pub loop-i-preserved : goal.loop-i-preserved
loop-i-preserved c =
    let a = c.args in
    let l = c.loop-i in
    l.invariant ∙ every_on (λ k. is_atom_well (entries a.records.atom_names.now k) (entries a.records.elements.now k) (get_or a.records.positions.now k zero_point)) (λ k. k) a.n l.i c.loop-i-test.true (ap (is_atom_well (entries a.records.atom_names.now l.i) (entries a.records.elements.now l.i)) (get_d_any a.records.positions.now l.i zero_point [] (omega arith)) ∙ sym c.is_atom_well.ensures ∙ c.if-not-is_atom_well.false)

pub returns : goal.returns
returns c =
    let a = c.args in
    let l = c.loop-i in
    sym (l.invariant ∙ every_end (λ k. is_atom_well (entries a.records.atom_names.now k) (entries a.records.elements.now k) (get_or a.records.positions.now k zero_point)) (λ k. k) a.n l.i c.loop-i-test.false)
