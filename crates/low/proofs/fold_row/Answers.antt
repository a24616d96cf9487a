use Rattle.std.proofs.Common.{drop, ap, ◌∙◌, arith}
use Rattle.low.proofs.Parts.{all_writes, folding_all, folding_more}
use Rattle.table.specs.Table.{head_len, row_at, row_tx}
use Rattle.rules.specs.Bodies.{stamp_of}
use Rattle.records.specs.Tx.{w_count}
use Rattle.low.proofs.fold_row.Goals as goal

pub loop-j-preserved : goal.loop-j-preserved
loop-j-preserved c = folding_more c.loop-j.invariant (omega arith) (rw (← c.loop-j.invariant.beside.rows, ← c.tx_at-in-loop-j.ensures.0, ← c.write_at-w.ensures) c.fold_write.ensures)

pub returns : goal.returns
returns c = folding_all c.loop-j.invariant (omega arith) ∙ all_writes (row_tx (row_at (drop head_len c.args.t.now) c.args.i)) _ _ _ (c.stamp_of-stamp.ensures ∙ ap stamp_of c.tx_at.ensures.0) (c.write_count-j-end.ensures.0 ∙ ap w_count c.tx_at-2.ensures.0)
