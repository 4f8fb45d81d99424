-- Each field is what the call for it answered.
use mathlib.Core.Path.{ap, ◌∙◌}
use native.Mathlib.Numerals.{add-one}
use Prim.Native.Nat.{ℕ, suc}
use lib.ListN.{get_or}
use Rattle.writer.proofs.atoms.atom_row.Goals as goal

pub returns : goal.returns
returns c =
    let a = c.args in
    let part = c.chain_part-chain in
    let entity = add-one part.result ∙ ap suc part.ensures in
    let chain = c.entry_at.ensures ∙ ap (λ (k : ℕ). get_or a.chains.now k 0) part.ensures in
    λ i. record {
      polymer = c.is_polymer.ensures i;
      id = a.id;
      element = a.atom.element;
      atom = a.atom.name;
      residue = a.walk.residue.name;
      chain = chain i;
      entity = entity i;
      number = a.walk.number;
      insertion_code = c.code_part.ensures i;
      position = a.atom.position;
      sequence = c.sequence_part.ensures i;
    }
