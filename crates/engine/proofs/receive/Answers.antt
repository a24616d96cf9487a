use Rattle.rules.specs.Act.{act_by, mark_by}
use Rattle.engine.specs.Outcome.{called, called_by}
use Rattle.engine.proofs.receive.Goals as goal

pub returns : goal.returns
unfolding called called_by act_by mark_by
returns c = rw (← c.mark_of.ensures) c.run.ensures
