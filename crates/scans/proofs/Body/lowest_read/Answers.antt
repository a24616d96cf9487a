use Rattle.records.specs.Tx.{tx_of}
use Rattle.rules.specs.Bodies.{reads_of}
use Rattle.scans.proofs.Skipping.{none_begin, none_more, none_end, older_less, older_not}
use native.Mathlib.Omega.{arith}
use Rattle.std.proofs.Common.{rules}
use Rattle.scans.proofs.Body.lowest_read.Goals as goal

pub loop-j-init : goal.loop-j-init
loop-j-init c = none_begin

pub loop-j-preserved : goal.loop-j-preserved
loop-j-preserved c = none_more c.loop-j.invariant (omega arith) (older_less (search rules)) (rw (← c.read_at.ensures) (older_not _ (search rules)))

pub returns : goal.returns
unfolding reads_of tx_of
returns c = rw (← c.read_count-j-end.ensures.0) (none_end c.loop-j.invariant (omega arith))
