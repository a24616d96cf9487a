use mathlib.Core.Path.{◌∙◌}
use mathlib.Core.Path.{refl}
use mathlib.Core.Option.{some}
use Rattle.table.specs.Table.{entry_with}
use Rattle.steps.proofs.Entries.{lg_logged, lg_free}
use Rattle.steps.proofs.lg_undecided.Goals as goal

pub returns-in-Some : goal.returns-in-Some
returns-in-Some c b = c.keep.ensures ∙ lg_logged _ _ _ _ _ _ _ c.in-Some.is

pub returns-in-None : goal.returns-in-None
unfolding entry_with
returns-in-None c b = c.lg_unlogged.ensures b (some _) refl refl ∙ lg_free _ _ _ _ _ c.in-None.is
