use Rattle.records.specs.Tx.{write_at, writes_from}
use Rattle.rules.specs.Bodies.{writes_of}
use Rattle.rules.specs.Calls.{value_at}
use Rattle.scans.proofs.Written.{First}
use Rattle.scans.proofs.Body.value_of.Given as goal

abbrev pub invariant-loop-j : goal.invariant-loop-j
invariant-loop-j l = First l.k.0 (write_at l.self.bytes.now (writes_from l.self.bytes.now)) l.j-end (value_at l.k.0 (writes_of l.self.bytes.now)) l.j
