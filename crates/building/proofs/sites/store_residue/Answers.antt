-- A residue that was met stays as it is, and a new one is what its first row says.
use mathlib.Core.Path.{refl, sym, ap, ◌∙◌, subst}
use Rattle.std.specs.Prelude.{Result, is_err}
use Prim.Native.Nat.{ℕ}
use Rattle.model.specs.Fold.{Residue, residue_of, first}
use Rattle.building.specs.declared.residues.ResidueEntry.{ResidueEntry}
use Rattle.building.specs.Kinds.{ResidueSlices, residues_now, IsResidue, ResiduesIn, ResiduesLong, ResiduesSame}
use Rattle.building.specs.Stores.{Apart, PutsNew}
use Rattle.building.proofs.MetAgain.{put_stays, put_first, new_place, met_value}
use Rattle.building.proofs.sites.store_residue.Goals as goal

pub returns-in-Ok : goal.returns-in-Ok
returns-in-Ok c =
    let a = c.args in
    let entry : ResidueSlices = residues_now a.residues.now in
    record {
      same = ((refl, refl, refl, refl, refl), refl, refl);
      puts = record {
        same = record { keys = refl; names = refl; marks = refl };
        apart = λ m long h sought low.
            let met = met_value a.places.key (first a.site) (ResiduesIn entry) a.room a.store m h c.in-Ok.field-0 (sym c.in-Ok.is ∙ sought) in
            subst (Apart (ResiduesIn entry) a.room a.store) (sym (put_stays a.places.key (first a.site) m met.0 h.ascending met.1 refl)) h;
      };
    }

pub returns-in-Err : goal.returns-in-Err
returns-in-Err c =
    let a = c.args in
    let put = c.put_new_residue in
    let entry : ResidueSlices = residues_now a.residues.now in
    let after : ResidueSlices = residues_now put.new.residues in
    let puts =
    subst
    (λ (e : ResidueEntry).
    (v : Residue) → IsResidue e v
    → PutsNew (ResiduesSame entry after) (ResiduesLong entry) (ResiduesIn entry) (ResiduesIn after) a.room a.store c.in-Err.at e.key v put.result)
    c.residue_entry.ensures put.ensures.puts (residue_of a.site) (record { name = refl; mark = refl }) in
    record {
      same = put.ensures.same;
      puts = record {
        same = puts.same;
        apart = λ m long h sought low.
            let found = new_place a.places.key (first a.site) (ResiduesIn entry) a.room a.store m h c.in-Err.at (sym c.in-Err.is ∙ sought) in
            subst (Apart (ResiduesIn after) a.room put.result) (sym (put_first a.places.key (first a.site) m h.ascending found.0))
            (puts.apart m long h (low (ap (λ (r : Result ℕ ℕ). is_err r) c.in-Err.is)) found.0 found.1);
      };
    }
