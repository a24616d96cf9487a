use Rattle.std.proofs.Common.{sym, ◌∙◌}
use Rattle.rules.specs.Act.{marked_act}
use Rattle.engine.specs.Outcome.{called_by}
use Rattle.engine.proofs.Steps.{stops, passes, refuses}
use Rattle.engine.proofs.called.Goals as goal

pub returns-in-Err : goal.returns-in-Err
unfolding called_by
returns-in-Err c = rw c.refuse.ensures (stops _ _ (sym c.lent_wrong.ensures ∙ c.in-Err.is))

pub due_step-requires : goal.due_step-requires
due_step-requires c = sym c.lent_wrong.ensures ∙ c.in_default.is

pub returns-in-Ok : goal.returns-in-Ok
unfolding called_by marked_act
returns-in-Ok c = rw c.in-Ok.is (passes _ (sym c.lent_wrong.ensures ∙ c.in_default.is) c.due_step.ensures)

pub returns-in-Err-marked : goal.returns-in-Err-marked
unfolding called_by marked_act
returns-in-Err-marked c = rw (c.refuse-in-Err-marked.ensures, c.in-Err-marked.is) (passes _ (sym c.lent_wrong.ensures ∙ c.in_default.is) (refuses _))
