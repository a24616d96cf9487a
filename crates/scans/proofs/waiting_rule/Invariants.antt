use mathlib.Core.Bool.{false}
use Rattle.records.specs.Tx.{read_at}
use Rattle.rules.specs.Bodies.{reads_of}
use Rattle.rules.specs.Tests.{status}
use Rattle.rules.specs.Visits.{version_up, waiting_visits}
use Rattle.table.specs.Table.{entries, low_of}
use Rattle.scans.specs.declared.Standing.TheVariants.{Fine}
use Rattle.scans.specs.Scans.{over, standing_of, worst}
use Rattle.scans.proofs.Waiting.{Worst}
use Rattle.scans.proofs.Visits.{Keyed}
use Rattle.scans.proofs.waiting_rule.Given as goal

abbrev pub invariant-loop-j : goal.invariant-loop-j
invariant-loop-j l = Worst (λ r. standing_of (status (over l.h (entries l.fn.t l.n)) r)) (read_at l.b 12) l.j-end (worst (λ r. standing_of (status (over l.h (entries l.fn.t l.n)) r)) Fine (reads_of l.b)) l.worst l.j × Keyed (version_up (low_of l.h) (entries l.fn.t l.n)) (λ _. false) (read_at l.b 12) l.j-end (waiting_visits (low_of l.h) (entries l.fn.t l.n) l.b) l.visited l.j
