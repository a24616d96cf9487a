use mathlib.Core.Path.{◌∙◌}
use Rattle.steps.proofs.Entries.{dc_takes, dc_equal, dc_opposite}
use Rattle.steps.proofs.dc_same.Goals as goal

pub returns-then-eq : goal.returns-then-eq
returns-then-eq c b = c.keep.ensures ∙ dc_equal _ _ _ _ _ c.in-Some.is _ c.eq.ensures c.if-eq.true

pub returns-in-None : goal.returns-in-None
returns-in-None c b = c.put.ensures ∙ dc_takes _ _ _ _ c.in-None.is

pub returns-else-eq : goal.returns-else-eq
returns-else-eq c b = c.refuse.ensures ∙ dc_opposite _ _ _ _ _ c.in-Some.is _ c.eq.ensures c.if-eq.false
