use mathlib.Core.Path.{◌∙◌}
use Rattle.rules.specs.Table.{box_with}
use Rattle.steps.proofs.Tallying.{proof_small}
use Rattle.steps.proofs.Rules.{dc_few, dc_enough}
use borrow.Author.Rules.{rules}
use Rattle.steps.proofs.dc_step.Goals as goal

pub lacking-lacks-requires : goal.lacking-lacks-requires
lacking-lacks-requires c = (search rules, rw (c.proof_need.ensures, c.group_of.ensures) (proof_small c.args.told.f c.kind_of.result c.decision_of-d.result (search rules)))

pub returns-then-lacks-ne0 : goal.returns-then-lacks-ne0
returns-then-lacks-ne0 c marks low folds = c.refuse.ensures ∙ dc_few _ _ _ c.lacking-lacks.ensures _ _ c.decision_of-d.ensures _ c.kind_of.ensures (c.proof_need.ensures ∙ (rw c.group_of.ensures)) (box_with _ marks low folds) _ c.if-lacks-ne0.true

pub returns : goal.returns
returns c marks low folds = c.dc_proved.ensures marks low folds ∙ dc_enough _ _ _ c.lacking-lacks.ensures _ _ c.decision_of-d.ensures _ c.kind_of.ensures (c.proof_need.ensures ∙ (rw c.group_of.ensures)) (box_with _ marks low folds) _ c.if-lacks-ne0.false
