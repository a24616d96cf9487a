use Rattle.lines.specs.Lines.{logged_blank, logged_text}
use Rattle.lines.proofs.Putting.{puts_text, puts_both, puts_apart}
use native.Mathlib.Omega.{arith}
use Rattle.lines.proofs.put_logged.Goals as goal

pub returns : goal.returns
unfolding logged_text
returns c =
    let h = puts_text {t = logged_blank} {n = 7} c.put_text-a.ensures (omega arith) in
    puts_both h (puts_apart c.put_decision-b.ensures c.put_text-c.ensures c.put_decimal.ensures (omega arith)) (omega arith)
