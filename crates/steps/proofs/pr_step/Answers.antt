use mathlib.Core.Path.{◌∙◌}
use Rattle.table.specs.Table.{box_from}
use Rattle.steps.specs.Step.{pr_by}
use Rattle.steps.proofs.Entries.{pr_decided, pr_open}
use Rattle.steps.proofs.Rules.{pr_looked}
use Rattle.steps.proofs.Looking.{own_visits}
use Rattle.steps.proofs.pr_step.Goals as goal

pub pr_new-requires : goal.pr_new-requires
pr_new-requires c = (c.requires.0, c.requires.1, own_visits _ _ _ c.look_up-look.ensures.0, c.requires.2)

pub pr_undecided-requires : goal.pr_undecided-requires
pr_undecided-requires c = (c.requires.0, c.requires.1, own_visits _ _ _ c.look_up-look.ensures.0, c.requires.2)

pub returns-in-Not : goal.returns-in-Not
returns-in-Not c = c.pr_new.ensures ∙ pr_looked (box_from _ _ _) _ _ c.look_up-look.ensures.0 _ c.in-Not.is _

pub returns-in-Some : goal.returns-in-Some
returns-in-Some c = c.keep.ensures ∙ (pr_decided _ _ (box_from _ _ _) _ _ _ c.in-Some.is ∙ pr_looked (box_from _ _ _) _ _ c.look_up-look.ensures.0 _ c.in-Same.is _)

pub returns-in-None : goal.returns-in-None
returns-in-None c = c.pr_undecided.ensures ∙ (pr_open _ _ (box_from _ _ _) _ _ c.in-None.is ∙ pr_looked (box_from _ _ _) _ _ c.look_up-look.ensures.0 _ c.in-Same.is _)

pub returns-in-Other : goal.returns-in-Other
unfolding pr_by
returns-in-Other c = c.refuse.ensures ∙ pr_looked (box_from _ _ _) _ _ c.look_up-look.ensures.0 _ c.in-Other.is _
