use mathlib.Core.Path.{ap}
use native.Mathlib.Omega.{arith}
use Rattle.records.specs.Views.{mark_vs, count_at, led_bytes}
use Rattle.writing.proofs.Laid.{puts_both, puts_then, puts_as}
use Rattle.writing.proofs.put_led.Goals as goal

pub returns-in-VS : goal.returns-in-VS
unfolding led_bytes
returns-in-VS c =
    let e = c.in-VS.is in
    (puts_as {p = mark_vs} (rw e) c.put_string.ensures, omega (arith, ap count_at e))

pub returns-in-EL : goal.returns-in-EL
unfolding led_bytes
returns-in-EL c =
    let e = c.in-EL.is in
    (puts_then c.put_string-at.ensures (puts_both c.put_two-at.ensures c.put_short.ensures) (rw e), omega (arith, ap count_at e))
