use mathlib.Core.Path.{◌∙◌}
use borrow.Author.Tests.{le-ltb}
use Rattle.scans.proofs.Outcomes.{below_yes, below_no}
use native.Mathlib.Omega.{arith}
use Rattle.scans.proofs.Body.below.Goals as goal

pub returns-then-p-stamp_of : goal.returns-then-p-stamp_of
returns-then-p-stamp_of c = let a = c.args in c.writes_key.ensures ∙ below_yes a.self.bytes.now a.p (omega arith)

pub returns-else-p-stamp_of : goal.returns-else-p-stamp_of
returns-else-p-stamp_of c = let a = c.args in le-ltb _ _ c.if-p-stamp_of.false ∙ below_no a.self.bytes.now a.p (omega arith)
