use Rattle.std.proofs.Common.{refl, arith}
use Rattle.writing.proofs.Laid.{fill_none, fill_more, fill_all, pairs, puts_as}
use Rattle.writing.proofs.put_pairs.Goals as goal

pub loop-pair-init : goal.loop-pair-init
loop-pair-init c = fill_none

pub loop-pair-preserved : goal.loop-pair-preserved
loop-pair-preserved c = fill_more c.loop-pair.invariant _ c.requires (omega arith) refl c.put_two-next.ensures

pub returns : goal.returns
returns c = puts_as (pairs _) (fill_all c.loop-pair.invariant (omega arith))
