use Rattle.scans.specs.Scans.{older}
use Rattle.records.specs.Tx.{read_at}
use Rattle.scans.proofs.Skipping.{NoneYet}
use Rattle.scans.proofs.Body.lowest_read.Given as goal

abbrev pub invariant-loop-j : goal.invariant-loop-j
invariant-loop-j l = NoneYet (older l.low.0) (read_at l.self.bytes.now 12) l.j-end l.j
