-- What is served fits the buffer, so that it is a part of it.
use native.Mathlib.Omega.{arith}
use Rattle.service.proofs.ServedFits.{own_fits}
use Rattle.intake.proofs.main.Goals as goal

pub slice_bounds-text-end : goal.slice_bounds-text-end
slice_bounds-text-end c = omega (arith, own_fits c.serve_own-answer.ensures c.in-Ok.served.written c.in-Ok.served.counts c.in-Ok.is)
