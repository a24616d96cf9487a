use Rattle.terms.proofs.Scans.{Rest}
use Rattle.records.specs.Tx.{write_at, writes_from}
use Rattle.rules.specs.Bodies.{stamp_of}
use Rattle.rules.specs.Tests.{test5}
use Rattle.scans.specs.Scans.{marked, marks_only}
use Rattle.scans.proofs.test_5.Given as goal

abbrev pub invariant-loop-j : goal.invariant-loop-j
invariant-loop-j l = Rest (marked l.marks (stamp_of l.b)) (write_at l.b (writes_from l.b)) l.j-end (test5 (marks_only l.marks) l.b) l.j
