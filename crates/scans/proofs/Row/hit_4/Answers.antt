use mathlib.Core.Path.{sym, ◌∙◌}
use mathlib.Core.Bool.{false≢true}
use Rattle.scans.proofs.Outcomes.{hit4_early, hit4_under, hit4_clear}
use Rattle.scans.proofs.Keys.{hit4_apart}
use Rattle.scans.proofs.Row.hit_4.Goals.{then-stamp_of, else-stamp_of, then-any_in, else-any_in}
use Rattle.scans.proofs.Row.hit_4.Goals as goal

pub returns-then-undercut : goal.returns-then-undercut
returns-then-undercut c =
    let b = c.args.b.bytes.now in
    let e = c.args.self.bytes.now in
    elim c.if-any_in.branch [
      | then-any_in w ↦ hit4_under b e c.live.ensures (rw (← c.tx-a.ensures) (sym w.undercut.ensures ∙ sym w.value-is ∙ c.if-undercut.true))
      | else-any_in w ↦ absurd (false≢true (sym w.if-any_in.false ∙ sym w.value-is ∙ c.if-undercut.true))
    ]

pub returns-else-undercut : goal.returns-else-undercut
returns-else-undercut c =
    let b = c.args.b.bytes.now in
    let e = c.args.self.bytes.now in
    c.if-undercut.false ∙ elim c.if-any_in.branch [
      | then-any_in w ↦ hit4_clear b e (rw (← c.tx-a.ensures) (sym w.undercut.ensures ∙ sym w.value-is ∙ c.if-undercut.false))
      | else-any_in w ↦ elim c.if-stamp_of.branch [
        | then-stamp_of v ↦ hit4_apart b e c.args.written.now c.requires (rw (← c.tx-a.ensures, ← v.read_count.ensures.0) (sym v.any_in.ensures ∙ sym v.value-is ∙ w.if-any_in.false))
        | else-stamp_of v ↦ hit4_early b e (rw (← c.tx-a.ensures, ← c.stamp_of.ensures, ← c.stamp_of-2.ensures) v.if-stamp_of.false)
      ]
    ]
