use borrow.Author.Tests.{eq-eqb, ne_eqb}
use Rattle.records.specs.Vl.{view_len}
use native.Mathlib.Omega.{arith}
use Rattle.records.proofs.view_len.Goals as goal

pub returns-then-kind-eq2 : goal.returns-then-kind-eq2
unfolding view_len
returns-then-kind-eq2 c = (rw (eq-eqb _ _ c.if-kind-eq2.true), omega arith)

pub returns-else-kind-eq2 : goal.returns-else-kind-eq2
unfolding view_len
returns-else-kind-eq2 c = (rw (ne_eqb _ _ c.if-kind-eq2.false), omega arith)
