use Rattle.rules.specs.Calls.{decide_act}
use Rattle.table.specs.Table.{state_in}
use Rattle.steps.specs.Step.{change_by, step_by}
use Rattle.steps.proofs.dc_new.Goals as goal

pub returns : goal.returns
unfolding step_by change_by decide_act state_in
returns c b = c.put.ensures
