use mathlib.Core.Path.{sym, ◌∙◌}
use mathlib.Core.Bool.{false≢true}
use borrow.Author.Tests.{le-ltb}
use Rattle.scans.proofs.Counting.{fails3_late, fails3_under, fails3_clear}
use Rattle.scans.proofs.Row.fails_3.Goals.{then-stamp_of, else-stamp_of}
use Rattle.scans.proofs.Row.fails_3.Goals as goal

pub returns-then-below : goal.returns-then-below
returns-then-below c =
    let a = c.args in
    elim c.if-stamp_of.branch [
      | then-stamp_of w ↦ fails3_under a.b.bytes.now a.self.bytes.now a.p (rw (← c.tx-a.ensures, ← c.stamp_of.ensures, ← c.stamp_of-2.ensures) w.if-stamp_of.true) c.live.ensures (rw (← c.tx-a.ensures) (sym w.below.ensures ∙ sym w.value-is ∙ c.if-below.true))
      | else-stamp_of w ↦ absurd (false≢true (sym (le-ltb _ _ w.if-stamp_of.false) ∙ sym w.value-is ∙ c.if-below.true))
    ]

pub returns-else-below : goal.returns-else-below
returns-else-below c =
    let a = c.args in
    c.if-below.false ∙ elim c.if-stamp_of.branch [
      | then-stamp_of w ↦ fails3_clear a.b.bytes.now a.self.bytes.now a.p (rw (← c.tx-a.ensures, ← c.stamp_of.ensures, ← c.stamp_of-2.ensures) w.if-stamp_of.true) (rw (← c.tx-a.ensures) (sym w.below.ensures ∙ sym w.value-is ∙ c.if-below.false))
      | else-stamp_of w ↦ fails3_late a.b.bytes.now a.self.bytes.now a.p (rw (← c.tx-a.ensures, ← c.stamp_of.ensures, ← c.stamp_of-2.ensures) w.if-stamp_of.false)
    ]
