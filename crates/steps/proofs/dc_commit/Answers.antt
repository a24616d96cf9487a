use borrow.Author.Rules.{rules}
use Rattle.rules.specs.Calls.{dc_other}
use Rattle.steps.specs.Step.{change_by, step_by}
use Rattle.steps.proofs.dc_commit.Goals as goal

pub returns-in-Some-Commit : goal.returns-in-Some-Commit
unfolding dc_other step_by change_by
returns-in-Some-Commit c b = search rules

pub returns-in-Some-Abort : goal.returns-in-Some-Abort
unfolding dc_other
returns-in-Some-Abort c b = grind rules
