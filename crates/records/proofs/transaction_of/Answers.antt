use Rattle.records.proofs.Held.{tx_held}
use native.Mathlib.Omega.{arith}
use Rattle.records.proofs.transaction_of.Goals as goal

pub returns : goal.returns
returns c = (tx_held _ _ _ _ _ _ c.u64_at.ensures c.wide-r.ensures.0 c.wide-w.ensures.0 c.reads_of.ensures c.writes_of-writes.ensures, omega arith, omega arith)
