-- No more names are lent on than the array has, and of its 4,096 the first `min size 4096` are the first `size`.
use Rattle.std.proofs.Common.{◌≡◌, length, arith}
use Rattle.model.specs.LentNow.{lent_now}
use Rattle.structures.proofs.FrontLaws.{kept_front}
use Rattle.structure_intake.specs.Calls.{Calls}
use Rattle.structure_intake.proofs.calls.call_into.Goals as goal

pub returns-clause-calls : goal.returns-clause-calls
returns-clause-calls c =
    let a = c.args in
    let n = c.call_first.new in
    let full : length a.names.now ≡ 4096 = omega arith in
    let same : length n.names ≡ length a.names.now = omega arith in
    kept_front (λ x y. Calls (lent_now x a.residues.now a.atoms.now) a.text.now a.out.now a.res.now c.call_first.result (lent_now y n.residues n.atoms) n.out n.res)
    a.size c.kept-size.result a.names.now n.names c.kept-size.ensures full same c.call_first.ensures.calls
