-- The row is put in.
use mathlib.Core.Path.{sym, ◌∙◌, subst}
use mathlib.Core.List.{List}
use Prim.Native.Nat.{ℕ}
use lib.ListN.{set, length-set}
use Rattle.std.specs.Prelude.{Option}
use Rattle.building.specs.Holds.{Records, SameLengths, records_now}
use Rattle.building.proofs.ChainsStored.{stored_in}
use Rattle.mmcif.specs.declared.stages.Waiting.{Waiting}
use Rattle.mmcif.specs.Stages.{chain_in, PutBy}
use Rattle.mmcif.proofs.stages.put_waiting.Goals as goal

-- a chain's name stored makes the list no longer
stored_lengths : (r after : Records) (place name : ℕ) → SameLengths r after → SameLengths r (stored_in after place name)
stored_lengths r after place name e = record {
  chains = length-set after.chains place name ∙ e.chains;
  residue_keys = e.residue_keys;
  residue_names = e.residue_names;
  residue_marks = e.residue_marks;
  atom_keys = e.atom_keys;
  atom_names = e.atom_names;
  elements = e.elements;
  positions = e.positions;
  occupancies = e.occupancies;
}

pub returns-clause-puts : goal.returns-clause-puts
returns-clause-puts c =
    let a = c.args in
    λ chains.
    let entry : Records = records_now chains a.residues.now a.atoms.now in
    let after : List ℕ → Records = λ l. records_now l c.keep_site.new.residues c.keep_site.new.atoms in
    record {
      lengths = stored_lengths entry (after chains) a.found (chain_in a.stage.waiting) (c.keep_site.ensures.lengths chains);
      puts = subst (λ (w : Option Waiting). PutBy w a.room a.found a.stage c.keep_site.result entry (after (set chains a.found (chain_in w)))) (sym c.in-Some.is) (c.keep_site.ensures.keeps chains);
    }
