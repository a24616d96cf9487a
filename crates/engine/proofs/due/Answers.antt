use Rattle.rules.specs.Act.{act_by, mark_by}
use Rattle.engine.specs.Outcome.{called, called_by}
use Rattle.engine.proofs.Entrance.{due_again}
use Rattle.engine.proofs.due.Goals as goal

pub returns : goal.returns
unfolding called called_by act_by mark_by
returns g c = rw (due_again c.args.marked, ← c.due_mark.ensures) c.run.ensures
