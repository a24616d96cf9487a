use Prim.Native.Nat.{◌+◌}
use mathlib.Core.Path.{sym, ◌∙◌}
use Rattle.terms.proofs.Scans.{found, go}
use Rattle.table.proofs.Bodies.{go_to}
use native.Mathlib.Omega.{arith}
use Rattle.table.proofs.any_bad.Goals as goal

pub returns-then-bad_at : goal.returns-then-bad_at
returns-then-bad_at c = found c.loop-i.invariant (omega arith) (sym c.bad_at.ensures ∙ c.if-bad_at.true)

pub returns-then-bad_at-2 : goal.returns-then-bad_at-2
returns-then-bad_at-2 c = found (go c.loop-i.invariant (omega arith) (sym c.bad_at.ensures ∙ c.if-bad_at.false)) (omega arith) (sym c.bad_at-in-loop-i.ensures ∙ c.if-bad_at-2.true)

pub returns-then-bad_at-3 : goal.returns-then-bad_at-3
returns-then-bad_at-3 c = found (go_to (go c.loop-i.invariant (omega arith) (sym c.bad_at.ensures ∙ c.if-bad_at.false)) (c.loop-i.i + 2) (omega arith) (sym c.bad_at-in-loop-i.ensures ∙ c.if-bad_at-2.false) (omega arith)) (omega arith) (sym c.bad_at-in-loop-i-2.ensures ∙ c.if-bad_at-3.true)

pub returns-then-bad_at-4 : goal.returns-then-bad_at-4
returns-then-bad_at-4 c = found (go_to (go_to (go c.loop-i.invariant (omega arith) (sym c.bad_at.ensures ∙ c.if-bad_at.false)) (c.loop-i.i + 2) (omega arith) (sym c.bad_at-in-loop-i.ensures ∙ c.if-bad_at-2.false) (omega arith)) (c.loop-i.i + 3) (omega arith) (sym c.bad_at-in-loop-i-2.ensures ∙ c.if-bad_at-3.false) (omega arith)) (omega arith) (sym c.bad_at-in-loop-i-3.ensures ∙ c.if-bad_at-4.true)

pub loop-i-preserved : goal.loop-i-preserved
loop-i-preserved c = go_to (go_to (go_to (go c.loop-i.invariant (omega arith) (sym c.bad_at.ensures ∙ c.if-bad_at.false)) (c.loop-i.i + 2) (omega arith) (sym c.bad_at-in-loop-i.ensures ∙ c.if-bad_at-2.false) (omega arith)) (c.loop-i.i + 3) (omega arith) (sym c.bad_at-in-loop-i-2.ensures ∙ c.if-bad_at-3.false) (omega arith)) (c.loop-i.i + 4) (omega arith) (sym c.bad_at-in-loop-i-3.ensures ∙ c.if-bad_at-4.false) (omega arith)
