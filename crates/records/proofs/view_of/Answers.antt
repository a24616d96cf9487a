use borrow.Author.Tests.{eq-eqb, ne_eqb}
use Rattle.records.specs.Vl.{view_of}
use Rattle.records.proofs.Held.{logs_view}
use native.Mathlib.Omega.{arith}
use Rattle.records.proofs.view_of.Goals as goal

pub u16_at-requires : goal.u16_at-requires
u16_at-requires c = omega (arith, logs_view _ c.if-s-eq2.true)

pub returns-then-s-eq2 : goal.returns-then-s-eq2
unfolding view_of
returns-then-s-eq2 c = rw (eq-eqb _ _ c.if-s-eq2.true) c.u16_at.ensures

pub returns-else-s-eq2 : goal.returns-else-s-eq2
unfolding view_of
returns-else-s-eq2 c = rw (ne_eqb _ _ c.if-s-eq2.false)
