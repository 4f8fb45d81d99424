-- What lacks the room is refused, and else the slices hold the model with the site; the site's numbers fit their types.
use native.Mathlib.Omega.{arith}
use Rattle.building.specs.Holds.{records_now}
use Rattle.acts.proofs.ActLaws.{put_kept}
use Rattle.acts.proofs.doing.keep_site.Goals as goal

pub returns-clause-keeps : goal.returns-clause-keeps
returns-clause-keeps c =
    let put = c.put_site-put in
    let a = c.args in
    λ chains found.
    put_kept (records_now chains a.residues.now a.atoms.now)
    a.room a.number a.held a.site (λ finite. record { sequence = omega arith; code = omega arith; atom = omega arith; occupancy = finite })
    put.result c.standing_by.result _ (put.ensures.did chains found) c.standing_by.ensures
