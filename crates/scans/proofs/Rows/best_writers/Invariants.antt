use Rattle.table.specs.Table.{entry_at}
use Rattle.scans.proofs.Written.{Newer}
use Rattle.scans.proofs.Rows.best_writers.Given as goal

abbrev pub invariant-loop-i : goal.invariant-loop-i
invariant-loop-i l = Newer l.k.0 l.s.0 (entry_at l.self.bytes.now) l.self.n l.x l.i
