use Rattle.low.proofs.Parts.{Folding}
use Rattle.table.specs.Table.{head_len, row_at, row_tx}
use Rattle.records.specs.Tx.{write_at, writes_from}
use lib.ListN.{drop}
use Rattle.low.proofs.fold_row.Given as goal

abbrev pub invariant-loop-j : goal.invariant-loop-j
invariant-loop-j l = Folding l.stamp.0 (write_at (row_tx (row_at (drop head_len l.initial.t) l.i)) (writes_from (row_tx (row_at (drop head_len l.initial.t) l.i)))) l.j-end l.initial.t l.t l.j
