use Rattle.rules.specs.Tests.{test1}
use Rattle.scans.proofs.test_1.Goals as goal

pub returns : goal.returns
unfolding test1
returns c = cc
