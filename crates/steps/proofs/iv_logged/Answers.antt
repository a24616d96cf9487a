use mathlib.Core.Path.{◌∙◌}
use Rattle.records.specs.declared.ViewMark.TheVariants.{VS}
use Rattle.records.specs.Views.{views_in}
use Rattle.steps.proofs.Fallback.{iv_last, iv_moves}
use Rattle.steps.proofs.iv_logged.Goals as goal

pub returns-then-next-gt-LARGEST_VIEW : goal.returns-then-next-gt-LARGEST_VIEW
returns-then-next-gt-LARGEST_VIEW c v = c.refuse.ensures ∙ iv_last _ _ _ (views_in VS _) _ _ v _ (rw c.group_of-g.ensures at c.next_view-next.ensures) c.if-next-gt-LARGEST_VIEW.true

pub returns : goal.returns
returns c v = c.put.ensures ∙ iv_moves _ _ _ (views_in VS _) _ _ v _ (rw c.group_of-g.ensures at c.next_view-next.ensures) c.if-next-gt-LARGEST_VIEW.false _ (rw (c.group_of-g.ensures, c.stamp_of.ensures) at c.leader_of-leader.ensures)
