use Rattle.passage.specs.Corrections.{passage_tx}
use Rattle.records.specs.Tx.{held_tx}
use native.Mathlib.Omega.{arith}
use Rattle.passage.proofs.transaction.Goals as goal

pub returns : goal.returns
unfolding passage_tx held_tx
returns c = (rw (c.reads_of.ensures, c.writes_of.ensures), omega arith, omega arith)
