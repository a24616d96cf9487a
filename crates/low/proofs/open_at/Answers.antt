use Rattle.std.proofs.Common.{◌∙◌}
use borrow.Author.Tests.{lt-leb}
use Rattle.low.proofs.Open.{open_above}
use Rattle.table.specs.Table.{row_at}
use Rattle.low.proofs.open_at.Goals as goal

pub returns-else-stamp_of-low : goal.returns-else-stamp_of-low
returns-else-stamp_of-low c =
    lt-leb _ _ c.if-stamp_of-low.false
    ∙ open_above c.args.low.0 (row_at c.args.t.now c.args.i) (rw (← c.row-e.ensures.0, ← c.tx_of.ensures.0, ← c.stamp_of.ensures) c.if-stamp_of-low.false)
