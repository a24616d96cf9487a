use mathlib.Core.Path.{sym, ◌∙◌}
use mathlib.Core.Bool.{false≢true}
use borrow.Author.Tests.{ltb-false}
use Rattle.scans.proofs.Outcomes.{hit3_old, hit3_late, hit3_under, hit3_clear}
use Rattle.scans.proofs.Keys.{hit3_apart}
use Rattle.scans.proofs.Row.hit_3.Goals.{then-low-s, else-low-s, then-s-stamp_of, else-s-stamp_of, then-any_in, else-any_in}
use Rattle.scans.proofs.Row.hit_3.Goals as goal

pub returns-then-undercut : goal.returns-then-undercut
returns-then-undercut c =
    let b = c.args.b.bytes.now in
    let e = c.args.self.bytes.now in
    elim c.if-any_in.branch [
      | then-any_in w ↦ hit3_under b e c.live.ensures (rw (← c.tx-a.ensures) (sym w.undercut.ensures ∙ sym w.value-is ∙ c.if-undercut.true))
      | else-any_in w ↦ absurd (false≢true (sym w.if-any_in.false ∙ sym w.value-is ∙ c.if-undercut.true))
    ]

pub returns-else-undercut : goal.returns-else-undercut
returns-else-undercut c =
    let b = c.args.b.bytes.now in
    let e = c.args.self.bytes.now in
    c.if-undercut.false ∙ elim c.if-any_in.branch [
      | then-any_in w ↦ hit3_clear b e (rw (← c.tx-a.ensures) (sym w.undercut.ensures ∙ sym w.value-is ∙ c.if-undercut.false))
      | else-any_in w ↦ elim c.if-s-stamp_of.branch [
        | then-s-stamp_of v ↦ hit3_apart b e c.args.read.now c.requires.1 (rw (← c.tx-a.ensures, ← v.writes_from.ensures, ← v.write_count.ensures.0) (sym v.any_in.ensures ∙ sym v.value-is ∙ w.if-any_in.false))
        | else-s-stamp_of v ↦ elim c.if-low-s.branch [
          | then-low-s u ↦ hit3_late b e (rw (← c.tx-a.ensures, ← c.stamp_of-s.ensures, ← u.stamp_of.ensures) (ltb-false _ _ (sym u.value-is ∙ v.if-s-stamp_of.false)))
          | else-low-s u ↦ hit3_old b e c.args.low.0 c.requires.0 (rw (← c.tx-a.ensures, ← c.stamp_of-s.ensures) u.if-low-s.false)
        ]
      ]
    ]
