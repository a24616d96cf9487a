use mathlib.Core.Path.{◌≡◌, sym, ◌∙◌}
use mathlib.Core.Bool.{true, false}
use Rattle.std.proofs.Common.{rules}
use Rattle.scans.proofs.Written.{newer_high, newer_old, newer_new, newer_lacks}
use Rattle.scans.proofs.Row.newer.Goals.{then-s-stamp-via-then-s-stamp, then-s-stamp-via-else-s-stamp+then-above, then-s-stamp-via-else-s-stamp+else-above+then-not-writes_key}
use Rattle.scans.proofs.Row.newer.Goals as goal

pub returns-then-s-stamp : goal.returns-then-s-stamp
returns-then-s-stamp c =
    let a = c.args in
    let t = c.tx-b.ensures in
    let v = c.stamp_of-stamp.ensures in
    elim c.then-s-stamp.branch [
      | then-s-stamp-via-then-s-stamp w ↦ newer_high a.k.0 a.s.0 a.self.bytes.now a.x (rw (← t, ← v) w.if-s-stamp.true)
      | then-s-stamp-via-else-s-stamp+then-above w ↦ newer_old a.k.0 a.s.0 a.self.bytes.now a.x (rw (← t, ← v) (sym w.above.ensures ∙ w.if-above.true))
      | then-s-stamp-via-else-s-stamp+else-above+then-not-writes_key w ↦ let n : w.writes_key.result ≡ false = search rules in newer_lacks a.k.0 a.s.0 a.self.bytes.now a.x (rw (← t) (sym w.writes_key.ensures ∙ n))
    ]

pub returns : goal.returns
returns c =
    let a = c.args in
    let t = c.tx-b.ensures in
    let v = c.stamp_of-stamp.ensures in
    let y : c.writes_key.result ≡ true = search rules in
    newer_new a.k.0 a.s.0 a.self.bytes.now a.x (rw (← t, ← v) c.if-s-stamp.false) (rw (← t, ← v) (sym c.above.ensures ∙ c.if-above.false)) (rw (← t) (sym c.writes_key.ensures ∙ y)) (rw (← t) v) (rw (← t) c.value_of.ensures)
