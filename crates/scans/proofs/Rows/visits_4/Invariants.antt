use Rattle.terms.specs.Choice.{any}
use Rattle.records.specs.Tx.{write_at, writes_from, write_key}
use Rattle.rules.specs.Visits.{through, visits4}
use Rattle.table.specs.Table.{entries}
use Rattle.scans.specs.Scans.{entries_only}
use Rattle.rules.specs.Visits.{fails4}
use Rattle.scans.proofs.Visits.{Keyed}
use Rattle.scans.proofs.Rows.visits_4.Given as goal

abbrev pub invariant-loop-j : goal.invariant-loop-j
invariant-loop-j l = Keyed (λ r. through (fails4 l.b.bytes.now (write_key r)) (entries l.self.bytes.now l.self.n)) (λ r. any (fails4 l.b.bytes.now (write_key r)) (entries l.self.bytes.now l.self.n)) (write_at l.b.bytes.now (writes_from l.b.bytes.now)) l.j-end (visits4 (entries_only (entries l.self.bytes.now l.self.n)) l.b.bytes.now) l.visited l.j
