use mathlib.Core.Path.{refl, ◌∙◌}
use mathlib.Core.Option.{none, some}
use Rattle.table.specs.Table.{entry_with}
use Rattle.terms.proofs.Scans.{tab_length}
use Rattle.rules.specs.Table.{box_with}
use Rattle.steps.specs.Step.{ld_by}
use Rattle.steps.proofs.Fallback.{ld_new, ld_decided, ld_open}
use Rattle.steps.proofs.Rules.{ld_looked}
use Rattle.steps.proofs.ld_step.Goals as goal

pub returns-in-Not : goal.returns-in-Not
returns-in-Not c marks low folds = c.ld_undecided.ensures none (refl, refl, refl) ∙ (ld_new _ _ (box_with _ marks low folds) _ _ _ _ (tab_length _ _ _) c.is_full.ensures ∙ ld_looked (box_with _ marks low folds) _ _ c.look_up-look.ensures.0 _ c.in-Not.is _ _)

pub returns-in-Some : goal.returns-in-Some
returns-in-Some c marks low folds = c.keep.ensures ∙ (ld_decided _ _ (box_with _ marks low folds) _ _ _ _ c.in-Some.is ∙ ld_looked (box_with _ marks low folds) _ _ c.look_up-look.ensures.0 _ c.in-Same.is _ _)

pub returns-in-None : goal.returns-in-None
unfolding entry_with
returns-in-None c marks low folds =
    c.ld_undecided-in-None.ensures (some _) (refl, refl, refl)
    ∙ (ld_open _ _ (box_with _ marks low folds) _ _ _ c.in-None.is ∙ ld_looked (box_with _ marks low folds) _ _ c.look_up-look.ensures.0 _ c.in-Same.is _ _)

pub returns-in-Other : goal.returns-in-Other
unfolding ld_by
returns-in-Other c marks low folds = c.refuse.ensures ∙ ld_looked (box_with _ marks low folds) _ _ c.look_up-look.ensures.0 _ c.in-Other.is _ _
