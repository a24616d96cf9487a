use mathlib.Core.Path.{refl, sym, ◌∙◌}
use Rattle.terms.proofs.Scans.{found, go, end}
use Rattle.table.proofs.Bodies.{begin_as}
use Rattle.scans.specs.Keys.{keys_at}
use native.Mathlib.Omega.{arith}
use Rattle.scans.proofs.any_in.Goals as goal

pub loop-j-init : goal.loop-j-init
unfolding keys_at
loop-j-init c = begin_as refl

pub returns-then-in_keys : goal.returns-then-in_keys
returns-then-in_keys c = found c.loop-j.invariant (omega arith) (rw (← c.u16_at.ensures) (sym c.in_keys.ensures ∙ c.if-in_keys.true))

pub loop-j-preserved : goal.loop-j-preserved
loop-j-preserved c = go c.loop-j.invariant (omega arith) (rw (← c.u16_at.ensures) (sym c.in_keys.ensures ∙ c.if-in_keys.false))

pub returns : goal.returns
returns c = end c.loop-j.invariant (omega arith)
