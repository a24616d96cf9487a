use Rattle.std.proofs.Common.{arith}
use Rattle.terms.proofs.Scans.{tab_take}
use Rattle.records.specs.Tx.{tx_in, zero_read, zero_write}
use Rattle.contents.proofs.tx_wrong.Goals as goal

pub returns : goal.returns
unfolding tx_in
returns c =
    let x = c.args.x in
    let a = tab_take zero_read x.reads x.r (omega arith) in
    let b = tab_take zero_write x.writes x.w (omega arith) in
    rw (a, b) c.parts_wrong.ensures
