use Rattle.lines.specs.Lines.{elect_blank, elected_text}
use Rattle.lines.proofs.Putting.{puts_text, puts_both, puts_apart}
use native.Mathlib.Omega.{arith}
use Rattle.lines.proofs.put_elected.Goals as goal

pub returns : goal.returns
unfolding elected_text
returns c =
    let h = puts_text {t = elect_blank} {n = 6} c.put_text-a.ensures (omega arith) in
    let behind = puts_apart c.put_decimal-e.ensures c.put_text-g.ensures c.put_decimal.ensures (omega arith) in
    puts_both h (puts_apart c.put_decision-b.ensures c.put_text-c.ensures behind (omega arith)) (omega arith)
