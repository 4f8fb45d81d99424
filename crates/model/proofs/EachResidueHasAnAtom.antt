-- Each residue has an atom: the row that names a residue names an atom of it too, whose place begins with the residue's key.
use mathlib.Core.Path.{◌≡◌, sym, ◌∙◌}
use mathlib.Core.Bool.{true}
use mathlib.Core.List.{List}
use lib.Dec.{eqb}
use borrow.Author.Tests.{eq-eqb}
use Rattle.model.specs.Finished.{key_part, Peopled}
use Rattle.model.specs.Fold.{model_of}
use Rattle.model.specs.Keys.{atom_at}
use Rattle.model.specs.Lists.{any, All}
use Rattle.model.specs.Proper.{Proper}
use Rattle.model.specs.Taken.{Taken, sites}
use Rattle.model.proofs.FoldKeepsRules.{fold_keeps_rules}
use Rattle.model.proofs.KeysGiveBack.{key_of_place}
use Rattle.model.proofs.ListLaws.{all_at, all_of, any_at}
use Rattle.model.proofs.MapLaws.{found_entry}

-- ---- the theorem
pub each_residue_has_an_atom : (l : List Taken) → All Proper (sites l) → Peopled (model_of l)
each_residue_has_an_atom l p =
    let r = fold_keeps_rules l p in
    let c = (model_of l).chains in
    all_of (λ e. any (λ a. eqb (key_part a.key) e.key) (model_of l).atoms ≡ true) (model_of l).residues (λ e m.
    let s = r.residues.only e m in
    let a = r.atoms.every s.0 s.1 in
    any_at (λ a. eqb (key_part a.key) e.key) (model_of l).atoms (record { key = atom_at c s.0; value = a.0 })
    (found_entry (atom_at c s.0) a.0 (model_of l).atoms a.1)
    (eq-eqb _ _ (key_of_place c s.0 (all_at Proper (sites l) s.0 p s.1) ∙ sym s.2)))
