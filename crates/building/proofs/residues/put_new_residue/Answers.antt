-- Whichever way the new residue goes, its area has room for it and it stands there at its place.
use mathlib.Core.Path.{ap, ◌∙◌, subst}
use Prim.Native.Nat.{◌^◌, ◌<◌}
use native.Mathlib.Omega.{arith}
use Rattle.std.specs.Prelude.{Err}
use Rattle.building.specs.Kinds.{ResidueSlices, residues_now, ResiduesLong}
use Rattle.building.specs.Stores.{Leads}
use Rattle.building.proofs.ResidueStores.{residues_put_same}
use Rattle.building.proofs.ResiduesEmptied.{still_long}
use Rattle.building.proofs.ResiduesPut.{main_place, put_main, put_pocket}
use Rattle.building.proofs.SameSlices.{residues_kept}
use Rattle.building.proofs.residues.put_new_residue.Goals as goal

pub returns-in-Main : goal.returns-in-Main
returns-in-Main c =
    let a = c.args in
    let x = a.residue in
    let entry : ResidueSlices = residues_now a.residues.now in
    let small : ResiduesLong entry a.room → a.room < 2 ^ 64 = λ long. omega (arith, long.keys) in
    let put = c.put_residue in
    let after = residues_now put.new.residues in
    record {
      same = put.ensures.same;
      puts = λ v own. record {
        same = residues_put_same entry after a.store.main a.at x put.ensures.puts;
        apart = λ m long h low absent place.
            let roomy = subst (Leads a.store) c.in-Main.is (c.way_of.ensures a.room h.lays (small long)) in
            put_main entry after a.room (small long) long a.store c.in_main.result x v own m h absent roomy a.at place c.in_main.ensures put.ensures.puts;
      };
    }

pub returns-in-Pocket : goal.returns-in-Pocket
returns-in-Pocket c =
    let a = c.args in
    let x = a.residue in
    let entry : ResidueSlices = residues_now a.residues.now in
    let small : ResiduesLong entry a.room → a.room < 2 ^ 64 = λ long. omega (arith, long.keys) in
    let look = c.residue_spot in
    let at = c.place_of-at in
    let put = c.put_residue-in-Pocket in
    let after = residues_now put.new.residues in
    record {
      same = put.ensures.same;
      puts = λ v own. record {
        same = residues_put_same entry after a.store.pocket at.result x put.ensures.puts;
        apart = λ m long h low absent place.
            let roomy = subst (Leads a.store) c.in-Pocket.is (c.way_of.ensures a.room h.lays (small long)) in
            put_pocket entry after a.room (small long) long a.store c.in_pocket.result x v own m h absent roomy.0
            look.result look.ensures roomy.1 at.result at.ensures c.in_pocket.ensures put.ensures.puts;
      };
    }

pub returns-in-Emptied : goal.returns-in-Emptied
returns-in-Emptied c =
    let a = c.args in
    let x = a.residue in
    let entry : ResidueSlices = residues_now a.residues.now in
    let small : ResiduesLong entry a.room → a.room < 2 ^ 64 = λ long. omega (arith, long.keys) in
    let made = c.make_room-store in
    let mid = residues_now made.new.residues in
    let look = c.residue_spot-in-Emptied in
    let at = c.place_of-at-in-Emptied in
    let put = c.put_residue-in-Emptied in
    let after = residues_now put.new.residues in
    let to = c.in_main-in-Emptied in
    record {
      same = residues_kept a.residues.now made.new.residues put.new.residues made.ensures.same put.ensures.same;
      puts = λ v own.
          let put = residues_put_same mid after made.result.main at.result x put.ensures.puts in
          record {
            same = record {
              keys = put.keys ∙ made.ensures.makes.same.keys;
              names = put.names ∙ made.ensures.makes.same.names;
              marks = put.marks ∙ made.ensures.makes.same.marks;
            };
            apart = λ m long h low absent place.
                let whole = made.ensures.makes.apart m long h low in
                let roomy = made.ensures.makes.roomy m long h low in
                let still = still_long entry mid a.room made.ensures.makes.same long in
                let found = main_place mid after a.room (small long) still made.result to.result x v own m whole absent roomy look.result look.ensures in
                put_main mid after a.room (small long) still made.result to.result x v own m whole absent roomy at.result (ap Err at.ensures ∙ found) to.ensures c.put_residue-in-Emptied.ensures.puts;
          };
    }
