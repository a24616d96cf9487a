use Rattle.std.proofs.Common.{◌∙◌, arith, rules}
use Rattle.low.proofs.Bytes.{number_open}
use Rattle.low.proofs.Passes.{raising_done, raising_more, raising_none, row_in}
use Rattle.low.proofs.raise.Goals as goal

pub loop-i-init : goal.loop-i-init
loop-i-init c = raising_none

pub pass_row-free-requires : goal.pass_row-free-requires
pass_row-free-requires c = (row_in c.loop-i.invariant c.requires (rw (← c.count_of-n.ensures.0) (omega arith)), c.loop-i.invariant.fits)

pub loop-i-preserved : goal.loop-i-preserved
loop-i-preserved c = raising_more c.loop-i.invariant c.requires (rw (← c.count_of-n.ensures.0) (omega arith)) c.pass_row-free.ensures.0 c.pass_row-free.ensures.1

pub returns : goal.returns
returns c = rw (c.put_u64.ensures ∙ number_open c.args.low.0 (search rules)) (raising_done c.loop-i.invariant c.requires (rw (← c.count_of-n.ensures.0) (omega arith)))
