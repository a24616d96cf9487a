use Rattle.table.specs.Table.{stored}
use native.Mathlib.Nat.{add-sub_cancel_left}
use Rattle.table.proofs.store.Goals as goal

pub returns : goal.returns
unfolding stored
returns c = rw (c.put_row.ensures, add-sub_cancel_left, c.new_count-n.ensures)
