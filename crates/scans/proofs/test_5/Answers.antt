use Rattle.terms.proofs.Scans.{found, go, end}
use Rattle.records.specs.Tx.{tx_of}
use Rattle.rules.specs.Bodies.{stamp_of, writes_of}
use Rattle.rules.specs.Tests.{test5}
use Rattle.table.proofs.Bodies.{begin_as}
use Rattle.scans.specs.Scans.{marked}
use Rattle.scans.proofs.Outcomes.{marked_yes, marked_no}
use native.Mathlib.Omega.{arith}
use Rattle.scans.proofs.test_5.Goals as goal

pub loop-j-init : goal.loop-j-init
unfolding test5 marked writes_of tx_of
loop-j-init c = begin_as (rw c.write_count-j-end.ensures.0)

pub returns-then-s-mark_at : goal.returns-then-s-mark_at
returns-then-s-mark_at c = let a = c.args in found c.loop-j.invariant (omega arith) (rw (← c.write_at.ensures) (marked_yes a.marks.now (stamp_of a.b.now) c.write_at.result c.mark_at.ensures (rw (← c.stamp_of-s.ensures) c.if-s-mark_at.true)))

pub loop-j-preserved : goal.loop-j-preserved
loop-j-preserved c = let a = c.args in go c.loop-j.invariant (omega arith) (rw (← c.write_at.ensures) (marked_no a.marks.now (stamp_of a.b.now) c.write_at.result c.mark_at.ensures (rw (← c.stamp_of-s.ensures) c.if-s-mark_at.false)))

pub returns : goal.returns
returns c = end c.loop-j.invariant (omega arith)
