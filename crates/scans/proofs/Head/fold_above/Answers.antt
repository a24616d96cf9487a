use Rattle.rules.specs.Tests.{fold_above}
use Rattle.scans.proofs.Head.fold_above.Goals as goal

pub returns : goal.returns
unfolding fold_above
returns c = rw c.fold_of-folded.ensures
