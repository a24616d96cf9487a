use mathlib.Core.Path.{sym, ◌∙◌}
use mathlib.Core.Bool.{false≢true}
use borrow.Author.Tests.{le-ltb}
use Rattle.scans.proofs.Counting.{fails4_early, fails4_under, fails4_clear}
use Rattle.scans.proofs.Row.fails_4.Goals.{then-s-stamp_of, else-s-stamp_of}
use Rattle.scans.proofs.Row.fails_4.Goals as goal

pub returns-then-read_below : goal.returns-then-read_below
returns-then-read_below c =
    let a = c.args in
    elim c.if-s-stamp_of.branch [
      | then-s-stamp_of w ↦ fails4_under a.b.bytes.now a.self.bytes.now a.k.0 (rw (← c.tx-a.ensures, ← c.stamp_of-s.ensures, ← c.stamp_of.ensures) w.if-s-stamp_of.true) c.live.ensures (rw (← c.tx-a.ensures, ← c.stamp_of-s.ensures) (sym w.read_below.ensures ∙ sym w.value-is ∙ c.if-read_below.true))
      | else-s-stamp_of w ↦ absurd (false≢true (sym (le-ltb _ _ w.if-s-stamp_of.false) ∙ sym w.value-is ∙ c.if-read_below.true))
    ]

pub returns-else-read_below : goal.returns-else-read_below
returns-else-read_below c =
    let a = c.args in
    c.if-read_below.false ∙ elim c.if-s-stamp_of.branch [
      | then-s-stamp_of w ↦ fails4_clear a.b.bytes.now a.self.bytes.now a.k.0 (rw (← c.tx-a.ensures, ← c.stamp_of-s.ensures, ← c.stamp_of.ensures) w.if-s-stamp_of.true) (rw (← c.tx-a.ensures, ← c.stamp_of-s.ensures) (sym w.read_below.ensures ∙ sym w.value-is ∙ c.if-read_below.false))
      | else-s-stamp_of w ↦ fails4_early a.b.bytes.now a.self.bytes.now a.k.0 (rw (← c.tx-a.ensures, ← c.stamp_of-s.ensures, ← c.stamp_of.ensures) w.if-s-stamp_of.false)
    ]
