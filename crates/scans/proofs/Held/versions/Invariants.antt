use Rattle.records.specs.Tx.{read_at}
use Rattle.rules.specs.Bodies.{reads_of}
use Rattle.rules.specs.Visits.{version_up, visits2}
use Rattle.table.specs.Table.{entries, low_of}
use Rattle.rules.specs.Tests.{names_none}
use Rattle.scans.specs.declared.Standing.TheVariants.{Fine}
use Rattle.scans.specs.Scans.{over, named, worst}
use Rattle.scans.proofs.Waiting.{Worst}
use Rattle.scans.proofs.Visits.{Keyed}
use Rattle.scans.proofs.Held.versions.Given as goal

abbrev pub invariant-loop-j : goal.invariant-loop-j
invariant-loop-j l = Worst (named (over l.self.head.bytes.now (entries l.self.rows.bytes.now l.self.rows.n))) (read_at l.b.bytes.now 12) l.j-end (worst (named (over l.self.head.bytes.now (entries l.self.rows.bytes.now l.self.rows.n))) Fine (reads_of l.b.bytes.now)) l.what l.j × Keyed (version_up (low_of l.self.head.bytes.now) (entries l.self.rows.bytes.now l.self.rows.n)) (names_none (over l.self.head.bytes.now (entries l.self.rows.bytes.now l.self.rows.n))) (read_at l.b.bytes.now 12) l.j-end (visits2 (over l.self.head.bytes.now (entries l.self.rows.bytes.now l.self.rows.n)) l.b.bytes.now) l.visited l.j
