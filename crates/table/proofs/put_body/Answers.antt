use Rattle.std.proofs.Common.{arith}
use Rattle.table.proofs.Copying.{copy_none, copy_more, copy_all}
use Rattle.table.proofs.put_body.Goals as goal

pub loop-i-init : goal.loop-i-init
loop-i-init c = copy_none c.requires

pub loop-i-preserved : goal.loop-i-preserved
loop-i-preserved c = copy_more c.loop-i.invariant (omega arith)

pub returns : goal.returns
returns c = copy_all c.loop-i.invariant (omega arith)
