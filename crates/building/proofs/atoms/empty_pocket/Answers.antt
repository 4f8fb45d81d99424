-- One atom of the pocket after the other goes over into main; after the last the pocket is empty.
use mathlib.Core.Path.{◌≡◌, refl, sym, ap, ◌∙◌, subst}
use Prim.Native.Nat.{ℕ, ◌^◌, ◌≤◌, ◌<◌}
use native.Mathlib.Numerals.{add-one}
use native.Mathlib.Omega.{arith}
use lib.ListN.{length}
use Rattle.gapped_slices.specs.Areas.{many}
use Rattle.model.specs.Fold.{Atom}
use Rattle.model.specs.Map.{Map}
use Rattle.building.specs.declared.stores.Store.{Store}
use Rattle.building.specs.Kinds.{AtomSlices, atoms_now, atom_entry_at, AtomsIn, AtomsLong}
use Rattle.building.specs.Stores.{emptied_area, Apart}
use Rattle.building.proofs.AtomStores.{no_atoms, atoms_put_same, atoms_still_long}
use Rattle.building.proofs.AtomsEmptied.{atom_over}
use Rattle.building.proofs.EmptyingLaws.{Emptying, empties_first, emptied_apart, none_in_pocket}
use Rattle.building.proofs.SameSlices.{same_atoms}
use Rattle.building.proofs.StoreLaws.{lies_pocket}
use Rattle.building.proofs.atoms.empty_pocket.Goals as goal

pub loop-k-init : goal.loop-k-init
loop-k-init c = (
  (refl, refl, refl, refl, refl),
  record { keys = refl; names = refl; elements = refl; positions = refl; occupancies = refl },
  λ room small long m h all. empties_first (AtomsIn (atoms_now c.args.atoms.now)) room c.args.store m h,
)

pub loop-k-preserved : goal.loop-k-preserved
loop-k-preserved c =
    let entry : AtomSlices = atoms_now c.args.atoms.now in
    let here : AtomSlices = atoms_now c.loop-k.atoms in
    let after : AtomSlices = atoms_now c.put_atom.new.atoms in
    let puts = c.put_atom.ensures.puts in
    let put = atoms_put_same here after c.loop-k.main c.place_of-at.result c.atom_at-atom.result puts in
    let so_far = c.loop-k.invariant.1 in (
      same_atoms c.args.atoms.now c.loop-k.atoms c.put_atom.new.atoms c.loop-k.invariant.0 c.put_atom.ensures.same,
      record {
        keys = put.keys ∙ so_far.keys;
        names = put.names ∙ so_far.names;
        elements = put.elements ∙ so_far.elements;
        positions = put.positions ∙ so_far.positions;
        occupancies = put.occupancies ∙ so_far.occupancies;
      },
      λ room small long m h all.
          let low : c.loop-k.k < many c.args.store.pocket = omega (arith, c.loop-k-test.true, all) in
          let lies = lies_pocket room c.args.store h.lays room (omega arith) in
          let read = c.atom_at-atom.ensures ∙ ap (atom_entry_at here) (c.stand-from.ensures room lies low) in
          subst (λ (n : ℕ). Emptying (AtomsIn after) c.args.store h.second m n c.with_entry-main.result) (sym (add-one c.loop-k.k))
          (atom_over entry here after room small (atoms_still_long entry here room so_far long) c.args.store m h c.loop-k.k low c.loop-k.main
          (c.loop-k.invariant.2 room small long m h all) c.atom_at-atom.result read c.atom_spot.result c.atom_spot.ensures
          c.place_of-at.result c.place_of-at.ensures c.with_entry-main.result c.with_entry-main.ensures puts),
    )

pub returns : goal.returns
returns c =
    let entry : AtomSlices = atoms_now c.args.atoms.now in
    let here : AtomSlices = atoms_now c.loop-k.atoms in
    let store = c.args.store in
    let after-all : Store = record { main = c.loop-k.main; pocket = c.emptied.result; credit = store.credit } in
    let nothing = no_atoms here (emptied_area store.pocket) refl in
    let small : (room : ℕ) → AtomsLong entry room → room < 2 ^ 64 = λ room long. omega (arith, long.keys) in
    let all : (room : ℕ) (m : Map Atom) → AtomsLong entry room → Apart (AtomsIn entry) room store m → c.entries_of-many.result ≡ many store.pocket
    = λ room m long h. c.entries_of-many.ensures (omega (arith, h.lays.pocket_fits, h.lays.inside, small room long)) in
    let over : (room : ℕ) (m : Map Atom) → AtomsLong entry room → (h : Apart (AtomsIn entry) room store m) → Emptying (AtomsIn here) store h.second m c.loop-k.k c.loop-k.main
    = λ room m long h. c.loop-k.invariant.2 room (small room long) long m h (all room m long h) in
    let none_left : (room : ℕ) (m : Map Atom) → AtomsLong entry room → (h : Apart (AtomsIn entry) room store m) → length h.second ≤ c.loop-k.k
    = λ room m long h. omega (arith, h.pocket.many, all room m long h, c.loop-k-test.false) in
    let no_more : (room : ℕ) (m : Map Atom) → AtomsLong entry room → Apart (AtomsIn entry) room store m → c.loop-k.k ≤ many store.pocket
    = λ room m long h. omega (arith, all room m long h, c.loop-k.auto.k-end) in
    record {
      same = c.loop-k.invariant.0;
      empties = record {
        same = c.loop-k.invariant.1;
        apart = λ room m long h.
            emptied_apart (AtomsIn entry) (AtomsIn here) room store m h c.loop-k.k (none_left room m long h) (no_more room m long h) c.loop-k.main (over room m long h)
            nothing after-all refl c.emptied.ensures;
        none = λ room m long h.
            none_in_pocket (AtomsIn entry) (AtomsIn here) room store m h c.loop-k.k (none_left room m long h) (no_more room m long h) c.loop-k.main (over room m long h)
            nothing after-all refl c.emptied.ensures;
      };
    }
