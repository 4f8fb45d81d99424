-- The first unwritable atom of those that are left is that of all, as long as none was found; and the walk stands in the residue of each.
use mathlib.Core.Path.{◌≡◌, sym, ap, ◌∙◌, subst}
use mathlib.Core.Bool.{Bool}
use Prim.Native.Nat.{ℕ, ◌+◌}
use native.Mathlib.Omega.{arith}
use lib.ListN.{take}
use Rattle.model.specs.Lent.{Lent, lent_in, residue_in, atom_in}
use Rattle.model.specs.TakenOut.{atom_out}
use Rattle.model.specs.declared.room.Room.{Room}
use Rattle.model.specs.declared.taken_out.Atom.{Atom}
use Rattle.wellformed.specs.Slices.{entries}
use Rattle.writer.specs.PolymerNumbers.{walked_to, unwritable_by}
use Rattle.writer.specs.declared.polymer_numbers.Walk.{Walk}
use Rattle.writer.proofs.ModelWalk.{walked_on, Walked, walk_begins, walk_goes}
use Rattle.writer.proofs.Unwritten.{seen_at, left_all, left_none, left_found, left_on}
use Rattle.writer.proofs.WalkBounds.{Bounded, bounded_first, bounded_next}
use Rattle.writer.proofs.unwritable.first_unwritable.Goals as goal

-- what is answered of the atom at index i, which the walk has come to
module _ (l : Lent) (counts : Room) (i : ℕ) (from : Walk) {atom : Atom} {next : Walk} (is : atom ≡ atom_out (atom_in l i)) (goes : next ≡ walked_to (residue_in l) from atom.key) where
  on : next ≡ walked_on l i from
  unfolding atom_out
  on = goes ∙ ap (λ (a : Atom). walked_to (residue_in l) from a.key) is

  seen : {answer : Bool} → answer ≡ unwritable_by (take counts.chains l.chains) atom next → answer ≡ seen_at l counts i from
  seen e =
      e
      ∙ ap (λ (a : Atom). unwritable_by (take counts.chains l.chains) a next) is
      ∙ ap (unwritable_by (take counts.chains l.chains) (atom_out (atom_in l i))) on

pub loop-i-init : goal.loop-i-init
loop-i-init c =
    let a = c.args in
    let l = lent_in a.records in
    let e = c.begin_walk-walk.ensures in
    (subst (Bounded 0) (sym e) (bounded_first (residue_in l)), λ well. (left_all l a.counts, subst (Walked l a.counts.residues a.counts.atoms 0) (sym e) (walk_begins l a.counts well)))

pub walk_to-walk-requires : goal.walk_to-walk-requires
walk_to-walk-requires c =
    let b = c.loop-i.invariant.0 in
    (omega (arith, b.entered, c.loop-i-test.true, c.requires.1), omega (arith, b.counted, c.loop-i-test.true, c.requires.1))

pub overflow_add-result : goal.overflow_add-result
overflow_add-result c = omega (arith, c.loop-i-test.true, c.requires.1)

pub returns-then-is_unwritable : goal.returns-then-is_unwritable
returns-then-is_unwritable c =
    let a = c.args in
    let l = lent_in a.records in
    let at = c.loop-i.i in
    let from = c.loop-i.walk in
    let answered = seen l a.counts at from c.atom_at-atom.ensures c.walk_to-walk.ensures c.is_unwritable.ensures in
    λ well. let inv = c.loop-i.invariant.1 well in sym (inv.0 ∙ left_found l a.counts well at c.loop-i-test.true from inv.1 _ answered c.if-is_unwritable.true)

pub loop-i-preserved : goal.loop-i-preserved
loop-i-preserved c =
    let a = c.args in
    let l = lent_in a.records in
    let at = c.loop-i.i in
    let from = c.loop-i.walk in
    let h = c.loop-i-test.true in
    let moved = on l a.counts at from c.atom_at-atom.ensures c.walk_to-walk.ensures in
    let answered = seen l a.counts at from c.atom_at-atom.ensures c.walk_to-walk.ensures c.is_unwritable.ensures in (
      subst (Bounded (at + 1)) (sym moved) (bounded_next (residue_in l) at from (entries a.records.atom_keys.now at) c.loop-i.invariant.0),
      λ well. let inv = c.loop-i.invariant.1 well in (
        inv.0 ∙ left_on l a.counts well at h from inv.1 _ answered c.if-is_unwritable.false,
        subst (Walked l a.counts.residues a.counts.atoms (at + 1)) (sym moved) (walk_goes l a.counts well at h from inv.1),
      ),
    )

pub returns : goal.returns
returns c =
    let a = c.args in
    let l = lent_in a.records in
    λ well. sym ((c.loop-i.invariant.1 well).0 ∙ left_none l a.counts c.loop-i.i c.loop-i-test.false)
