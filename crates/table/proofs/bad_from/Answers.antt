use Rattle.std.proofs.Common.{arith, sym, ◌∙◌}
use Rattle.terms.proofs.Scans.{go}
use Rattle.table.proofs.bad_from.Goals as goal

pub loop-i-preserved : goal.loop-i-preserved
loop-i-preserved c = go c.loop-i.invariant (omega arith) (sym c.bad_at.ensures ∙ c.if-bad_at.false)
