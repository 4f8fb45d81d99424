-- Each field is its slice's entry, or a part of the key, which is its slice's entry.
use mathlib.Core.Path.{ap, ◌∙◌}
use mir.Syntax.{w32}
use mir.ValLaws.{to_z-of_z}
use Rattle.model.specs.Keys.{chain_part, sequence_part, code_part}
use Rattle.model.specs.TakenOut.{signed, residue_out}
use Rattle.model.proofs.records.Records.residue_at.Goals as goal

pub returns : goal.returns
unfolding residue_out
returns c =
    let key = c.entry_at-key.ensures in
    let chain = c.chain_part.ensures ∙ ap chain_part key in
    let moved = c.sequence_part.ensures ∙ ap sequence_part key in
    let sequence = to_z-of_z w32 _ (record { sfits = c.signed.type_inv }) ∙ c.signed.ensures ∙ ap signed moved in
    let code = c.code_part.ensures ∙ ap code_part key in
    λ i. record {
      chain = chain i;
      sequence = sequence i;
      insertion_code = code i;
      name = c.entry_at.ensures i;
      code = c.entry_at-2.ensures i;
      category = c.entry_at-3.ensures i;
      position = c.entry_at-4.ensures i;
    }
