use mathlib.Core.Path.{◌∙◌}
use Rattle.records.specs.Views.{views_in}
use Rattle.steps.proofs.Fallback.{ld_election, ld_passed, ld_takes, ld_full, ld_room}
use Rattle.steps.proofs.ld_undecided.Goals as goal

pub returns-then-full : goal.returns-then-full
unfolding views_in
returns-then-full c o w = c.refuse.ensures ∙ (ld_full _ _ _ c.if-full.true ∙ ld_takes _ _ _ _ o _ _ (rw c.group_of.ensures at c.leads.ensures) c.if-leads.true c.args.e w _ c.may_take.ensures c.if-may_take.true)

pub returns-then-may_take : goal.returns-then-may_take
unfolding views_in
returns-then-may_take c o w = c.ld_taken.ensures _ o w.0 ∙ (ld_room _ _ _ c.if-full.false ∙ ld_takes _ _ _ _ o _ _ (rw c.group_of.ensures at c.leads.ensures) c.if-leads.true c.args.e w _ c.may_take.ensures c.if-may_take.true)

pub returns-then-leads : goal.returns-then-leads
unfolding views_in
returns-then-leads c o w = c.refuse-then-leads.ensures ∙ ld_passed _ _ _ _ o _ _ (rw c.group_of.ensures at c.leads.ensures) c.if-leads.true c.args.e w _ c.may_take.ensures c.if-may_take.false

pub returns : goal.returns
returns c o w = c.refuse-2.ensures ∙ ld_election _ _ _ _ o _ _ (rw c.group_of.ensures at c.leads.ensures) c.if-leads.false
