use borrow.Author.Tests.{eq-eqb, ne_eqb}
use Rattle.lines.specs.Lines.{blank, lacking_text}
use Rattle.lines.proofs.Putting.{puts_none, puts_text, puts_both}
use native.Mathlib.Omega.{arith}
use Rattle.lines.proofs.put_lacking.Goals as goal

pub returns-then-lacking-eq0 : goal.returns-then-lacking-eq0
unfolding lacking_text
returns-then-lacking-eq0 c = rw (eq-eqb _ _ c.if-lacking-eq0.true) (puts_none _ _ _ (omega arith))

pub returns : goal.returns
unfolding lacking_text
returns c =
    let h = puts_text {t = blank} {n = 1} c.put_text-a.ensures (omega arith) in
    rw (ne_eqb _ _ c.if-lacking-eq0.false) (puts_both h c.put_decimal.ensures (omega arith))
