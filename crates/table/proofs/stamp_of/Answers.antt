use Rattle.records.specs.Tx.{tx_of}
use Rattle.rules.specs.Bodies.{stamp_of}
use Rattle.table.proofs.stamp_of.Goals as goal

pub returns : goal.returns
unfolding stamp_of tx_of
returns c = c.u64_at.ensures
