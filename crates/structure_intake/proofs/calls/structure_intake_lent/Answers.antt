-- What the call leaves in the array of names, stored into the records, is what the call leaves in the records: as many are written as a call of this result may renew.
use Rattle.std.proofs.Common.{◌≡◌, ℕ, List, length, sym, ◌∙◌, ap, subst, arith, rules}
use lib.ListN.{length-replicate}
use Rattle.model.specs.Lent.{Lent, lent_of}
use Rattle.model.specs.LentNow.{lent_now}
use Rattle.chains.specs.declared.chain.Chain.{Chain}
use Rattle.chains.specs.Names.{names_in, named}
use Rattle.structures.proofs.SlicesBack.{slices_back}
use Rattle.structure_intake.specs.Calls.{Calls}
use Rattle.structure_intake.proofs.CallStored.{call_stored}
use Rattle.structure_intake.proofs.calls.structure_intake_lent.Goals as goal

pub returns : goal.returns
returns c =
    let a = c.args in
    let s = c.call_into-status in
    let n = s.new in
    let xs = c.no_names-names.result in
    let long : length xs ≡ 4096 = ap length c.no_names-names.ensures ∙ length-replicate {A = ℕ} 4096 0 in
    let sized : length n.names ≡ 4096 = omega arith in
    let before : List ℕ → Lent = λ names. lent_of names a.residue_keys.now a.residue_names.now a.residue_codes.now a.residue_categories.now a.residue_positions.now
    a.atom_keys.now a.atom_names.now a.elements.now a.positions.now a.occupancies.now in
    let after : List ℕ → Lent = λ names. lent_now names n.residues n.atoms in
    let stored = c.store_names.ensures ∙ ap (named a.chains.now n.names) c.renewed-count.ensures in
    let calls = subst (λ (chains : List Chain). Calls (before (names_in a.chains.now)) a.text.now a.out.now a.res.now s.result (after (names_in chains)) n.out n.res) (sym stored)
    (call_stored a.chains.now xs n.names (before xs) (after xs) a.text.now a.out.now a.res.now s.result n.out n.res long sized s.ensures.calls) in
    slices_back (λ x. Calls (before (names_in a.chains.now)) a.text.now a.out.now a.res.now s.result x n.out n.res) (names_in c.store_names.new.chains) n.residues n.atoms
    (search rules) (search rules) (search rules) (search rules) (search rules) (search rules) (search rules) (search rules) (search rules) (search rules) calls
