use Rattle.std.proofs.Common.{arith}
use Rattle.terms.proofs.Scans.{go}
use Rattle.sheet.proofs.both.Goals as goal

pub loop-b-preserved : goal.loop-b-preserved
loop-b-preserved c = go c.loop-b.invariant (omega arith) (cc)
