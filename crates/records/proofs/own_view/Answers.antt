use mathlib.Core.Path.{sym, ◌∙◌}
use Rattle.records.proofs.Held.{view_kept, view_gone}
use Rattle.records.proofs.own_view.Goals as goal

pub returns-then-view_len-eq2 : goal.returns-then-view_len-eq2
returns-then-view_len-eq2 c = sym (view_kept _ _ (sym c.view_len.ensures.0 ∙ c.if-view_len-eq2.true))

pub returns-else-view_len-eq2 : goal.returns-else-view_len-eq2
returns-else-view_len-eq2 c = sym (view_gone _ _ (λ h. c.if-view_len-eq2.false (c.view_len.ensures.0 ∙ h)))
