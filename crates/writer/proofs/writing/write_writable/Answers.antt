-- An unwritable atom is refused; where there is none, what is written is the text, if it fits.
use mathlib.Core.Path.{◌∙◌, subst}
use Rattle.std.specs.Prelude.{Err}
use Rattle.refusals.specs.declared.reasons.Reason.TheVariants.{CannotBeWritten}
use Rattle.model.specs.Lent.{lent_in, model_in}
use Rattle.writer.specs.Writing.{Writing, Wrote}
use Rattle.writer.proofs.WritingLaws.{unwritable, writable, well_formed_lem}
use Rattle.writer.proofs.writing.write_writable.Goals as goal

pub returns-in-Some : goal.returns-in-Some
returns-in-Some c =
    let a = c.args in
    let l = lent_in a.records in
    let out = a.out.now in
    λ well. subst (λ (w : Writing). Wrote out w (Err (CannotBeWritten c.in-Some.atom)) out) (well_formed_lem out l a.counts well)
    (unwritable out (model_in l a.counts) c.in-Some.atom (c.in-Some.ensures well))

pub returns : goal.returns
returns c =
    let a = c.args in
    let l = lent_in a.records in
    let out = a.out.now in
    λ well. subst (λ (w : Writing). Wrote out w c.write_fitting.result c.write_fitting.new.out)
    (writable out (model_in l a.counts) (c.in_default.ensures well) ∙ well_formed_lem out l a.counts well)
    (c.write_fitting.ensures well)
