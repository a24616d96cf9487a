use mathlib.Core.Path.{◌∙◌}
use Rattle.records.specs.declared.ViewMark.TheVariants.{VS}
use Rattle.records.specs.Views.{views_in}
use Rattle.steps.proofs.Fallback.{iv_unlogged, iv_logs}
use Rattle.steps.proofs.iv_undecided.Goals as goal

pub returns-in-None : goal.returns-in-None
returns-in-None c = c.refuse.ensures ∙ iv_unlogged _ _ _ (views_in VS _) _ c.in-None.is

pub returns-in-Some : goal.returns-in-Some
returns-in-Some c = c.iv_logged.ensures _ ∙ iv_logs _ _ _ (views_in VS _) _ _ _ c.in-Some.is
