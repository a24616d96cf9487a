use Rattle.std.proofs.Common.{arith, sym, ◌∙◌}
use Rattle.terms.proofs.Scans.{found, go}
use Rattle.low.proofs.any_open.Goals as goal

pub returns-then-open_at : goal.returns-then-open_at
returns-then-open_at c = found c.loop-i.invariant (omega arith) (sym c.open_at.ensures ∙ c.if-open_at.true)

pub loop-i-preserved : goal.loop-i-preserved
loop-i-preserved c = go c.loop-i.invariant (omega arith) (sym c.open_at.ensures ∙ c.if-open_at.false)
