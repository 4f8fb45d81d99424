-- The numbers told are those of the answer, which is what the reading says under the settings that assume.
use Rattle.std.proofs.Common.{◌∙◌, ap, subst}
use Rattle.std.proofs.lemmas.List.Edits.{sets}
use Rattle.rows.specs.declared.settings.Settings.{Settings}
use Rattle.model.specs.Lent.{Lent, lent_of}
use Rattle.model.specs.LentNow.{lent_now}
use Rattle.std.specs.Prelude.{Result}
use Rattle.building.specs.declared.sites.Counts.{Counts}
use Rattle.refusals.specs.declared.reasons.Refusal.{Refusal}
use Rattle.reader.specs.Reading.{ReadBy}
use borrow.Author.Rules.{rules}
use Rattle.chains.specs.Names.{names_in}
use Rattle.structures.proofs.SlicesBack.{slices_back}
use Rattle.probe_structures.specs.Readings.{numbers_of, ReadInto}
use Rattle.probe_structures.proofs.reading.probe_read.Goals as goal

pub returns : goal.returns
returns c =
    let a = c.args in
    let r = c.read-answer in
    let n = r.new in
    let before : Lent = lent_of (names_in a.chains.now) a.residue_keys.now a.residue_names.now a.residue_codes.now a.residue_categories.now a.residue_positions.now
    a.atom_keys.now a.atom_names.now a.elements.now a.positions.now a.occupancies.now in
    let after = lent_now (names_in n.chains) n.residues n.atoms in
    let read = subst (λ (s : Settings). ReadBy s before a.text.now r.result after) c.assuming.ensures r.ensures.reads in
    let told = c.put_numbers.ensures ∙ ap (λ (answer : Result Counts Refusal). sets a.numbers.now 0 (numbers_of answer)) read.0 in
    slices_back (λ x. ReadInto before a.text.now a.numbers.now c.put_numbers.new.numbers x) (names_in n.chains) n.residues n.atoms
    (search rules) (search rules) (search rules) (search rules) (search rules) (search rules) (search rules) (search rules) (search rules) (search rules) (told, read.1)
