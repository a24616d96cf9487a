use Rattle.held.proofs.Found.{rows_wf, row_found, row_none}
use Rattle.table.proofs.Bodies.{row_fits}
use mathlib.Core.Path.{◌∙◌}
use native.Mathlib.Omega.{arith}
use Rattle.held.proofs.found_in.Goals as goal

pub place-i-requires : goal.place-i-requires
place-i-requires c = rows_wf c.args.t.now _ _ c.rows-rows.ensures c.count_of-n.ensures.0 c.requires.0

pub row-requires : goal.row-requires
row-requires c = (row_fits (rows_wf c.args.t.now _ _ c.rows-rows.ensures c.count_of-n.ensures.0 c.requires.0) _ c.if-i-n.true).0

pub in_row-requires : goal.in_row-requires
in_row-requires c = (rw c.row.ensures.0 (row_fits (rows_wf c.args.t.now _ _ c.rows-rows.ensures c.count_of-n.ensures.0 c.requires.0) c.place-i.result c.if-i-n.true).1, omega arith)

pub returns-then-i-n : goal.returns-then-i-n
returns-then-i-n c = c.in_row.ensures ∙ row_found c.args.t.now _ _ c.rows-rows.ensures c.count_of-n.ensures.0 _ _ c.place-i.ensures.0 c.if-i-n.true _ c.row.ensures.0

pub returns : goal.returns
returns c = row_none c.args.t.now _ _ c.rows-rows.ensures c.count_of-n.ensures.0 _ _ c.place-i.ensures.0 c.if-i-n.false c.place-i.ensures.1
