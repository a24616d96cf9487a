use mathlib.Core.Path.{◌∙◌}
use Rattle.steps.proofs.Tallying.{log_small}
use Rattle.steps.proofs.Rules.{lg_few, lg_full, lg_logs}
use borrow.Author.Rules.{rules}
use Rattle.steps.proofs.lg_unlogged.Goals as goal

pub lacking-lacks-requires : goal.lacking-lacks-requires
lacking-lacks-requires c = (search rules, rw (c.log_need.ensures, c.group_of.ensures) (log_small c.args.told.f c.decision_of-d.result (search rules)))

pub returns-then-lacks-ne0 : goal.returns-then-lacks-ne0
returns-then-lacks-ne0 c b o w s = c.refuse.ensures ∙ lg_few _ _ _ c.lacking-lacks.ensures _ _ c.decision_of-d.ensures (c.log_need.ensures ∙ (rw c.group_of.ensures)) _ c.if-lacks-ne0.true _

pub returns-then-full : goal.returns-then-full
returns-then-full c b o w s = c.refuse-then-full.ensures ∙ lg_full _ _ _ c.lacking-lacks.ensures _ _ c.decision_of-d.ensures (c.log_need.ensures ∙ (rw c.group_of.ensures)) _ c.if-lacks-ne0.false _ c.if-full.true _

pub returns : goal.returns
returns c b o w s = c.put.ensures ∙ lg_logs _ _ _ c.lacking-lacks.ensures _ _ c.decision_of-d.ensures (c.log_need.ensures ∙ (rw c.group_of.ensures)) _ c.if-lacks-ne0.false _ c.if-full.false _ _ b o w s
