use Rattle.low.proofs.Passes.{pass_committed, pass_dropped, pass_high}
use mathlib.Core.Path.{◌∙◌}
use Rattle.low.proofs.pass_row.Goals as goal

pub returns-then-low-stamp_of : goal.returns-then-low-stamp_of
returns-then-low-stamp_of c = let p = pass_high c.args.low.0 c.args.i c.args.free c.args.t.now (rw (← c.tx_at.ensures.0, ← c.stamp_of.ensures) c.if-low-stamp_of.true) in (c.move_row.ensures ∙ p.0, p.1)

pub returns-then-t-d-eq1 : goal.returns-then-t-d-eq1
returns-then-t-d-eq1 c = let p = pass_committed c.args.low.0 c.args.i c.args.free c.args.t.now (rw (← c.tx_at.ensures.0, ← c.stamp_of.ensures) c.if-low-stamp_of.false) c.if-t-d-eq1.true in (c.fold_row.ensures ∙ p.0, p.1)

pub returns-else-t-d-eq1 : goal.returns-else-t-d-eq1
returns-else-t-d-eq1 c = pass_dropped c.args.low.0 c.args.i c.args.free c.args.t.now (rw (← c.tx_at.ensures.0, ← c.stamp_of.ensures) c.if-low-stamp_of.false) c.if-t-d-eq1.false
