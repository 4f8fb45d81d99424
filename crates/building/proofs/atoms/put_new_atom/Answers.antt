-- Whichever way the new atom goes, its area has room for it and it stands there at its place.
use mathlib.Core.Path.{ap, ◌∙◌, subst}
use Prim.Native.Nat.{◌^◌, ◌<◌}
use native.Mathlib.Omega.{arith}
use Rattle.std.specs.Prelude.{Err}
use Rattle.building.specs.Kinds.{AtomSlices, atoms_now, AtomsLong}
use Rattle.building.specs.Stores.{Leads}
use Rattle.building.proofs.AtomStores.{atoms_put_same, atoms_still_long}
use Rattle.building.proofs.AtomsPut.{main_place, put_main, put_pocket}
use Rattle.building.proofs.SameSlices.{same_atoms}
use Rattle.building.proofs.atoms.put_new_atom.Goals as goal

pub returns-in-Main : goal.returns-in-Main
returns-in-Main c =
    let a = c.args in
    let x = a.atom in
    let entry : AtomSlices = atoms_now a.atoms.now in
    let small : AtomsLong entry a.room → a.room < 2 ^ 64 = λ long. omega (arith, long.keys) in
    let small_name : x.name < 2 ^ 64 = omega arith in
    let put = c.put_atom in
    let after = atoms_now put.new.atoms in
    record {
      same = put.ensures.same;
      puts = λ v own. record {
        same = atoms_put_same entry after a.store.main a.at x put.ensures.puts;
        apart = λ m long h low absent place.
            let roomy = subst (Leads a.store) c.in-Main.is (c.way_of.ensures a.room h.lays (small long)) in
            put_main entry after a.room (small long) long a.store c.in_main.result x small_name v own m h absent roomy a.at place c.in_main.ensures put.ensures.puts;
      };
    }

pub returns-in-Pocket : goal.returns-in-Pocket
returns-in-Pocket c =
    let a = c.args in
    let x = a.atom in
    let entry : AtomSlices = atoms_now a.atoms.now in
    let small : AtomsLong entry a.room → a.room < 2 ^ 64 = λ long. omega (arith, long.keys) in
    let small_name : x.name < 2 ^ 64 = omega arith in
    let look = c.atom_spot in
    let at = c.place_of-at in
    let put = c.put_atom-in-Pocket in
    let after = atoms_now put.new.atoms in
    record {
      same = put.ensures.same;
      puts = λ v own. record {
        same = atoms_put_same entry after a.store.pocket at.result x put.ensures.puts;
        apart = λ m long h low absent place.
            let roomy = subst (Leads a.store) c.in-Pocket.is (c.way_of.ensures a.room h.lays (small long)) in
            put_pocket entry after a.room (small long) long a.store c.in_pocket.result x small_name v own m h absent roomy.0
            look.result look.ensures roomy.1 at.result at.ensures c.in_pocket.ensures put.ensures.puts;
      };
    }

pub returns-in-Emptied : goal.returns-in-Emptied
returns-in-Emptied c =
    let a = c.args in
    let x = a.atom in
    let entry : AtomSlices = atoms_now a.atoms.now in
    let small : AtomsLong entry a.room → a.room < 2 ^ 64 = λ long. omega (arith, long.keys) in
    let small_name : x.name < 2 ^ 64 = omega arith in
    let made = c.make_room-store in
    let mid = atoms_now made.new.atoms in
    let look = c.atom_spot-in-Emptied in
    let at = c.place_of-at-in-Emptied in
    let put = c.put_atom-in-Emptied in
    let after = atoms_now put.new.atoms in
    let to = c.in_main-in-Emptied in
    record {
      same = same_atoms a.atoms.now made.new.atoms put.new.atoms made.ensures.same put.ensures.same;
      puts = λ v own.
          let put = atoms_put_same mid after made.result.main at.result x put.ensures.puts in
          record {
            same = record {
              keys = put.keys ∙ made.ensures.makes.same.keys;
              names = put.names ∙ made.ensures.makes.same.names;
              elements = put.elements ∙ made.ensures.makes.same.elements;
              positions = put.positions ∙ made.ensures.makes.same.positions;
              occupancies = put.occupancies ∙ made.ensures.makes.same.occupancies;
            };
            apart = λ m long h low absent place.
                let whole = made.ensures.makes.apart m long h low in
                let roomy = made.ensures.makes.roomy m long h low in
                let still = atoms_still_long entry mid a.room made.ensures.makes.same long in
                let found = main_place mid after a.room (small long) still made.result to.result x small_name v own m whole absent roomy look.result look.ensures in
                put_main mid after a.room (small long) still made.result to.result x small_name v own m whole absent roomy at.result (ap Err at.ensures ∙ found) to.ensures c.put_atom-in-Emptied.ensures.puts;
          };
    }
