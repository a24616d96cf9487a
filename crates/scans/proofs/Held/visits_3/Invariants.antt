use Rattle.terms.specs.Choice.{any}
use Rattle.records.specs.Tx.{read_at}
use mathlib.Core.Bool.{◌||◌}
use mathlib.Core.List.{[]}
use Rattle.rules.specs.Tests.{fold_above}
use Rattle.rules.specs.Visits.{through, unless, visits3}
use Rattle.table.specs.Table.{entries}
use Rattle.scans.specs.Scans.{over}
use Rattle.rules.specs.Visits.{fails3}
use Rattle.scans.proofs.Visits.{Keyed}
use Rattle.scans.proofs.Held.visits_3.Given as goal

abbrev pub invariant-loop-j : goal.invariant-loop-j
invariant-loop-j l = Keyed (λ r. unless (fold_above (over l.self.head.bytes.now []) r) (through (fails3 l.b.bytes.now r) (entries l.self.rows.bytes.now l.self.rows.n))) (λ r. fold_above (over l.self.head.bytes.now []) r || any (fails3 l.b.bytes.now r) (entries l.self.rows.bytes.now l.self.rows.n)) (read_at l.b.bytes.now 12) l.j-end (visits3 (over l.self.head.bytes.now (entries l.self.rows.bytes.now l.self.rows.n)) l.b.bytes.now) l.visited l.j
