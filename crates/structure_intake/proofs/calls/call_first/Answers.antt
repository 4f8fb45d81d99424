-- A result of another length is refused at once; else the answer of the service is told in it. The names that are lent on are the first of the names;
-- when they come back, as many as went out, they are again the first of all names.
use Rattle.std.proofs.Common.{◌≡◌, ◌-◌, length, take, sym, ◌∙◌}
use Rattle.model.specs.LentNow.{lent_now}
use Rattle.results.proofs.ResultLaws.{told_whole}
use Rattle.service.specs.Serving.{Serves}
use Rattle.structures.proofs.FrontLaws.{lent_front}
use Rattle.structure_intake.proofs.CallLaws.{called, not_called}
use Rattle.structure_intake.proofs.calls.call_first.Goals as goal

pub returns-then-not-is_whole-clause-calls : goal.returns-then-not-is_whole-clause-calls
returns-then-not-is_whole-clause-calls c =
    let a = c.args in
    not_called a.text.now a.out.now a.res.now (lent_now (take a.size a.names.now) a.residues.now a.atoms.now) (sym c.is_whole.ensures ∙ c.if-not-is_whole.true)

pub returns-clause-calls : goal.returns-clause-calls
returns-clause-calls c =
    let a = c.args in
    let s = c.serve-answer in
    let n = s.new in
    let whole = sym c.is_whole.ensures ∙ c.if-not-is_whole.false in
    let long : length n.chains ≡ length (take (a.size - 0) a.names.now) = s.auto.chains in
    let front = lent_front (λ x y. Serves c.assuming.result (lent_now x a.residues.now a.atoms.now) a.text.now a.out.now s.result (lent_now y n.residues n.atoms) n.out)
    a.size a.names.now n.chains c.requires long s.ensures.serves in
    called a.text.now a.out.now a.res.now c.assuming.result c.assuming.ensures (lent_now (take a.size a.names.now) a.residues.now a.atoms.now) _ _ _ _ _ whole
    front
    (c.put_numbers.ensures ∙ told_whole a.res.now s.result whole)
    c.status_of.ensures
