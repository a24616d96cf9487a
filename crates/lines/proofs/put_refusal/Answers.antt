use Rattle.lines.specs.Lines.{refused_blank, refusal_text}
use Rattle.lines.proofs.Putting.{puts_text, puts_both}
use native.Mathlib.Omega.{arith}
use Rattle.lines.proofs.put_refusal.Goals as goal

pub returns : goal.returns
unfolding refusal_text
returns c =
    let h = puts_text {t = refused_blank} {n = 8} c.put_text-a.ensures (omega arith) in
    rw (← c.number.ensures, ← c.lacking.ensures)
    (puts_both h (puts_both c.put_decimal-b.ensures c.put_lacking.ensures (omega arith)) (omega arith))
