use Rattle.std.proofs.Common.{sym, ◌∙◌}
use native.Mathlib.Omega.{arith}
use Rattle.rules.specs.Act.{due_act}
use Rattle.engine.proofs.Lent.{long}
use Rattle.engine.proofs.Steps.{stops, passes}
use Rattle.engine.proofs.Old.{old_stops}
use Rattle.engine.proofs.due_step.Goals as goal

pub returns-in-Err : goal.returns-in-Err
unfolding due_act
returns-in-Err c = rw c.refuse.ensures (stops _ _ (sym c.due_wrong.ensures ∙ c.in-Err.is))

pub is_old-requires : goal.is_old-requires
is_old-requires c = let l = long _ _ c.requires in (omega arith, (_, sym c.due_wrong.ensures ∙ c.in_default.is))

pub returns-then-is_old : goal.returns-then-is_old
unfolding due_act
returns-then-is_old c = rw c.refuse-then-is_old.ensures (passes _ (sym c.due_wrong.ensures ∙ c.in_default.is) (old_stops _ _ _ _ _ (sym c.is_old.ensures ∙ c.if-is_old.true)))

pub step_of-requires : goal.step_of-requires
step_of-requires c = (c.requires, sym c.due_wrong.ensures ∙ c.in_default.is, sym c.is_old.ensures ∙ c.if-is_old.false)

pub returns : goal.returns
unfolding due_act
returns c = passes _ (sym c.due_wrong.ensures ∙ c.in_default.is) c.step_of.ensures
