use mathlib.Core.Path.{refl, ◌∙◌}
use mathlib.Core.Option.{none}
use Rattle.terms.proofs.Scans.{tab_length}
use Rattle.rules.specs.Table.{box_with}
use Rattle.steps.specs.Step.{lg_by}
use Rattle.steps.proofs.Entries.{lg_new, lg_decided, lg_open}
use Rattle.steps.proofs.Rules.{lg_looked}
use Rattle.steps.proofs.lg_step.Goals as goal

pub returns-in-Not : goal.returns-in-Not
returns-in-Not c marks low folds = c.lg_unlogged.ensures _ none refl refl ∙ (lg_new _ _ (box_with _ marks low folds) _ _ _ _ (tab_length _ _ _) c.is_full.ensures ∙ lg_looked (box_with _ marks low folds) _ _ c.look_up-look.ensures.0 _ c.in-Not.is _ _)

pub returns-in-Some : goal.returns-in-Some
returns-in-Some c marks low folds = c.keep.ensures ∙ (lg_decided _ _ (box_with _ marks low folds) _ _ _ _ c.in-Some.is ∙ lg_looked (box_with _ marks low folds) _ _ c.look_up-look.ensures.0 _ c.in-Same.is _ _)

pub returns-in-None : goal.returns-in-None
returns-in-None c marks low folds = c.lg_undecided.ensures _ ∙ (lg_open _ _ (box_with _ marks low folds) _ _ _ c.in-None.is ∙ lg_looked (box_with _ marks low folds) _ _ c.look_up-look.ensures.0 _ c.in-Same.is _ _)

pub returns-in-Other : goal.returns-in-Other
unfolding lg_by
returns-in-Other c marks low folds = c.refuse.ensures ∙ lg_looked (box_with _ marks low folds) _ _ c.look_up-look.ensures.0 _ c.in-Other.is _ _
