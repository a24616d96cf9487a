use mathlib.Core.Path.{◌∙◌}
use Rattle.rules.specs.Table.{box_with}
use Rattle.steps.specs.Step.{iv_by}
use Rattle.steps.proofs.Fallback.{iv_decided, iv_open}
use Rattle.steps.proofs.Rules.{iv_looked}
use Rattle.steps.proofs.iv_step.Goals as goal

pub returns-in-Not : goal.returns-in-Not
unfolding iv_by
returns-in-Not c marks low folds = c.refuse.ensures ∙ iv_looked (box_with _ marks low folds) _ _ c.look_up-look.ensures.0 _ c.in-Not.is _ _

pub returns-in-Some : goal.returns-in-Some
returns-in-Some c marks low folds = c.keep.ensures ∙ (iv_decided _ _ _ _ _ _ c.in-Some.is ∙ iv_looked (box_with _ marks low folds) _ _ c.look_up-look.ensures.0 _ c.in-Same.is _ _)

pub returns-in-None : goal.returns-in-None
returns-in-None c marks low folds = c.iv_undecided.ensures ∙ (iv_open _ _ _ _ _ c.in-None.is ∙ iv_looked (box_with _ marks low folds) _ _ c.look_up-look.ensures.0 _ c.in-Same.is _ _)

pub returns-in-Other : goal.returns-in-Other
unfolding iv_by
returns-in-Other c marks low folds = c.refuse-in-Other.ensures ∙ iv_looked (box_with _ marks low folds) _ _ c.look_up-look.ensures.0 _ c.in-Other.is _ _
