use mathlib.Core.Path.{refl}
use Rattle.scans.proofs.Written.{newer_begin, newer_more, newer_end}
use native.Mathlib.Omega.{arith}
use Rattle.scans.proofs.Rows.best_writers.Goals as goal

pub loop-i-init : goal.loop-i-init
loop-i-init c = newer_begin

pub loop-i-preserved : goal.loop-i-preserved
loop-i-preserved c = newer_more c.loop-i.invariant (omega arith) refl (rw (← c.row.ensures) c.next-x.ensures)

pub returns : goal.returns
returns c = newer_end c.loop-i.invariant (omega arith)
