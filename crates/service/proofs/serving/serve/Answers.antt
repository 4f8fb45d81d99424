-- A text that is not read is refused as the reader says; one that is read leaves the model in the records, from which it is written.
use mathlib.Core.Path.{sym, ◌∙◌}
use Rattle.model.specs.LentNow.{lent_now}
use Rattle.service.proofs.ServingLaws.{read_well, serve_unread, serve_read}
use Rattle.service.proofs.serving.serve.Goals as goal

pub write_out-requires : goal.write_out-requires
write_out-requires c =
    let a = c.args in
    let r = c.read_by_names.ensures.reads in
    read_well a.settings (lent_now a.chains.now a.residues.now a.atoms.now) a.text.now c.in-Ok.counts _ (sym c.in-Ok.is ∙ r.0) r.1

pub returns-in-Err-clause-serves : goal.returns-in-Err-clause-serves
returns-in-Err-clause-serves c =
    let a = c.args in
    let r = c.read_by_names.ensures.reads in
    serve_unread a.settings (lent_now a.chains.now a.residues.now a.atoms.now) a.text.now a.out.now c.in-Err.why _ (sym c.in-Err.is ∙ r.0) r.1

pub returns-in-Ok-clause-serves : goal.returns-in-Ok-clause-serves
returns-in-Ok-clause-serves c =
    let a = c.args in
    let r = c.read_by_names.ensures.reads in
    let w = c.write_out in
    serve_read a.settings (lent_now a.chains.now a.residues.now a.atoms.now) a.text.now a.out.now c.in-Ok.counts
    _ (lent_now w.new.chains w.new.residues w.new.atoms) w.result w.new.out (sym c.in-Ok.is ∙ r.0) r.1 w.ensures.writes
