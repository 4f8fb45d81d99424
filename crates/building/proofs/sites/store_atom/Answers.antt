-- An atom that was met is replaced where it stands, if its occupancy is less; a new one is what its row says.
use mathlib.Core.Path.{refl, sym, ap, ◌∙◌, subst}
use Rattle.std.specs.Prelude.{Result, is_err}
use Prim.Native.Nat.{ℕ}
use Rattle.model.specs.Fold.{Atom, atom_of, greater}
use Rattle.model.specs.Keys.{atom_place}
use Rattle.building.specs.declared.atoms.AtomEntry.{AtomEntry}
use Rattle.building.specs.Kinds.{AtomSlices, atoms_now, IsAtom, AtomsIn, AtomsLong, AtomsSame, ReplacesAtom}
use Rattle.building.specs.Sites.{atom_entry}
use Rattle.building.specs.Stores.{Apart, PutsNew}
use Rattle.building.proofs.AtomStores.{atoms_same}
use Rattle.building.proofs.AtomsMet.{atom_met}
use Rattle.building.proofs.MetAgain.{put_first, new_place}
use Rattle.building.proofs.sites.store_atom.Goals as goal

pub returns-in-Ok : goal.returns-in-Ok
returns-in-Ok c =
    let a = c.args in
    let at = c.in-Ok.at in
    let n : AtomEntry = atom_entry a.places.key a.site in
    let entry : AtomSlices = atoms_now a.atoms.now in
    let replaced : AtomSlices = atoms_now c.replace_atom.new.atoms in
    let x : ReplacesAtom at n entry replaced = subst (λ (e : AtomEntry). ReplacesAtom at e entry replaced) c.atom_entry-atom.ensures c.replace_atom.ensures.replaces in
    record {
      same = c.replace_atom.ensures.same;
      puts = record {
        same = atoms_same entry replaced at n x.keys x.names x.elements x.positions x.occupancies;
        apart = λ m long h sought low.
            atom_met entry replaced at n x.keys x.names x.elements x.positions x.occupancies a.room long a.site (record { element = refl; position = refl; occupancy = refl })
            a.store (atom_place a.places.key a.site.atom) m h (sym c.in-Ok.is ∙ sought);
      };
    }

pub returns-in-Err : goal.returns-in-Err
returns-in-Err c =
    let a = c.args in
    let put = c.put_new_atom in
    let entry : AtomSlices = atoms_now a.atoms.now in
    let after : AtomSlices = atoms_now put.new.atoms in
    let k = atom_place a.places.key a.site.atom in
    let puts =
    subst
    (λ (e : AtomEntry).
    (v : Atom) → IsAtom e v
    → PutsNew (AtomsSame entry after) (AtomsLong entry) (AtomsIn entry) (AtomsIn after) a.room a.store c.in-Err.at (atom_place e.key e.name) v put.result)
    c.atom_entry-atom.ensures put.ensures.puts (atom_of a.site) (record { element = refl; position = refl; occupancy = refl }) in
    record {
      same = put.ensures.same;
      puts = record {
        same = puts.same;
        apart = λ m long h sought low.
            let found = new_place k (greater a.site) (AtomsIn entry) a.room a.store m h c.in-Err.at (sym c.in-Err.is ∙ sought) in
            subst (Apart (AtomsIn after) a.room put.result) (sym (put_first k (greater a.site) m h.ascending found.0))
            (puts.apart m long h (low (ap (λ (r : Result ℕ ℕ). is_err r) c.in-Err.is)) found.0 found.1);
      };
    }
