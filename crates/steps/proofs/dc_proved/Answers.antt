use mathlib.Core.Path.{◌∙◌}
use Rattle.steps.specs.Step.{dc_by}
use Rattle.rules.specs.Table.{box_with}
use Rattle.terms.proofs.Scans.{tab_length}
use Rattle.steps.proofs.Rules.{dc_looked}
use Rattle.steps.proofs.dc_proved.Goals as goal

pub returns-in-Not : goal.returns-in-Not
unfolding dc_by
returns-in-Not c marks low folds = c.dc_unheld.ensures (box_with _ marks low folds) _ (tab_length _ _ _) ∙ dc_looked (box_with _ marks low folds) _ _ c.look_up-look.ensures.0 _ c.in-Not.is _ _

pub returns-in-Same : goal.returns-in-Same
unfolding dc_by
returns-in-Same c marks low folds = c.dc_same.ensures c.args.b.now ∙ dc_looked (box_with _ marks low folds) _ _ c.look_up-look.ensures.0 _ c.in-Same.is _ _

pub returns-in-Other : goal.returns-in-Other
unfolding dc_by
returns-in-Other c marks low folds = c.dc_other.ensures c.args.b.now ∙ dc_looked (box_with _ marks low folds) _ _ c.look_up-look.ensures.0 _ c.in-Other.is _ _
