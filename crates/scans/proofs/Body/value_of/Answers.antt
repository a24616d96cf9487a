use Rattle.records.specs.Tx.{tx_of}
use Rattle.rules.specs.Bodies.{writes_of}
use Rattle.scans.proofs.Written.{first_begin, first_found, first_go, first_end}
use native.Mathlib.Omega.{arith}
use Rattle.scans.proofs.Body.value_of.Goals as goal

pub loop-j-init : goal.loop-j-init
unfolding writes_of tx_of
loop-j-init c = first_begin (rw c.write_count-j-end.ensures.0)

pub returns-then-w-k : goal.returns-then-w-k
returns-then-w-k c = rw c.write_at-w.ensures (first_found c.loop-j.invariant (omega arith) (rw (← c.write_at-w.ensures) c.if-w-k.true))

pub loop-j-preserved : goal.loop-j-preserved
loop-j-preserved c = first_go c.loop-j.invariant (omega arith) (rw (← c.write_at-w.ensures) c.if-w-k.false)

pub returns : goal.returns
returns c = first_end c.loop-j.invariant (omega arith)
