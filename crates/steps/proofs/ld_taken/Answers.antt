use mathlib.Core.Path.{◌∙◌}
use Rattle.records.specs.Views.{views_in}
use Rattle.rules.specs.Calls.{log_act}
use Rattle.table.specs.Table.{state_in}
use Rattle.steps.specs.Step.{step_by, change_by}
use Rattle.steps.proofs.ld_taken.Goals as goal

pub returns : goal.returns
unfolding views_in log_act state_in step_by change_by
returns c b o w = c.put.ensures ∙ (rw (c.decision_of-d.ensures, w))
