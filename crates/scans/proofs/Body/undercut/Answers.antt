use mathlib.Core.Path.{◌∙◌}
use borrow.Author.Tests.{le-ltb}
use Rattle.scans.proofs.Outcomes.{under_yes, under_no}
use Rattle.scans.proofs.Body.undercut.Goals as goal

pub returns-then-stamp_of : goal.returns-then-stamp_of
returns-then-stamp_of c = let a = c.args in c.any_below.ensures ∙ under_yes a.self.bytes.now a.b.bytes.now (rw (← c.stamp_of.ensures, ← c.stamp_of-2.ensures) c.if-stamp_of.true)

pub returns-else-stamp_of : goal.returns-else-stamp_of
returns-else-stamp_of c = let a = c.args in le-ltb _ _ c.if-stamp_of.false ∙ under_no a.self.bytes.now a.b.bytes.now (rw (← c.stamp_of.ensures, ← c.stamp_of-2.ensures) c.if-stamp_of.false)
