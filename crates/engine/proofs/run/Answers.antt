use Rattle.engine.proofs.Steps.{applied}
use Rattle.engine.proofs.run.Goals as goal

pub apply-requires : goal.apply-requires
apply-requires c = c.called-step.ensures.ready

pub returns : goal.returns
returns c = applied _ c.called-step.ensures c.apply.ensures
