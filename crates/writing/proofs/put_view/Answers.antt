use Rattle.records.specs.Vl.{view_len, view_bytes}
use Rattle.records.proofs.Held.{logs_view}
use Rattle.writing.proofs.Laid.{put_none}
use native.Mathlib.Omega.{arith}
use borrow.Author.Tests.{eq-eqb, ne_eqb}
use Rattle.writing.proofs.put_view.Goals as goal

pub put_short-requires : goal.put_short-requires
put_short-requires c = omega (arith, logs_view _ c.if-kind-eq2.true)

pub returns-then-kind-eq2 : goal.returns-then-kind-eq2
unfolding view_len view_bytes
returns-then-kind-eq2 c = let p = c.put_short.ensures in rw (eq-eqb _ _ c.if-kind-eq2.true) (p, p.place)

pub returns-else-kind-eq2 : goal.returns-else-kind-eq2
unfolding view_len view_bytes
returns-else-kind-eq2 c = rw (ne_eqb _ _ c.if-kind-eq2.false) (put_none, omega arith)
