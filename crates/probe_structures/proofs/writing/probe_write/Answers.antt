-- The numbers told are those of the answer, which is what the writing says.
use Rattle.std.proofs.Common.{ℕ, ◌∙◌, ap}
use Rattle.std.proofs.lemmas.List.Edits.{sets}
use Rattle.std.specs.Prelude.{Result}
use Rattle.refusals.specs.declared.reasons.Reason.{Reason}
use Rattle.probe_structures.specs.Writings.{numbers_of}
use Rattle.probe_structures.proofs.writing.probe_write.Goals as goal

pub returns : goal.returns
returns c =
    let w = c.write_structure-answer in
    (c.put_numbers.ensures ∙ ap (λ (answer : Result ℕ Reason). sets c.args.numbers.now 0 (numbers_of answer)) w.ensures.answered, w.ensures.left)
