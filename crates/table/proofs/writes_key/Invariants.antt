use Rattle.table.proofs.Bodies.{has_key}
use Rattle.rules.specs.Bodies.{writes_key}
use Rattle.records.specs.Tx.{write_at}
use Rattle.terms.proofs.Scans.{Rest}
use Rattle.table.proofs.writes_key.Given as goal

abbrev pub invariant-loop-j : goal.invariant-loop-j
invariant-loop-j l = Rest (has_key l.k.0) (write_at l.s l.p) l.j-end (writes_key l.s l.k.0) l.j
