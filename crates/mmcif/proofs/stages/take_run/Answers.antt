-- What the walk promises of a run.
use Rattle.mmcif.proofs.stages.take_run.Goals as goal

pub returns-clause-takes : goal.returns-clause-takes
returns-clause-takes c = λ chains. (c.walk.ensures.walks chains).run
