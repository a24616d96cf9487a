use Rattle.records.specs.Vl.{list_in}
use Rattle.rules.specs.Lists.{lacking}
use Rattle.steps.proofs.Tallying.{none_lack}
use Rattle.steps.proofs.lacking.Goals as goal

pub returns-then-counted-need : goal.returns-then-counted-need
unfolding lacking list_in
returns-then-counted-need c = rw c.tally-counted.ensures.0

pub returns : goal.returns
unfolding list_in
returns c = none_lack _ _ _ c.tally-counted.ensures.0 c.if-counted-need.false
