use Rattle.rules.specs.Calls.{dc_other}
use Rattle.steps.specs.Step.{change_by, step_by}
use Rattle.steps.proofs.dc_other.Goals as goal

pub returns-in-Abort : goal.returns-in-Abort
unfolding dc_other step_by change_by
returns-in-Abort c b = rw c.in-Abort.is c.refuse.ensures

pub returns-in-Commit : goal.returns-in-Commit
returns-in-Commit c b = rw c.in-Commit.is (c.dc_commit.ensures b)
