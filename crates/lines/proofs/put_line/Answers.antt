use Rattle.lines.proofs.Putting.{puts_word, puts_apart, puts_within}
use Rattle.lines.specs.Lines.{line_end, line_of}
use native.Mathlib.Omega.{arith}
use Rattle.lines.proofs.put_line.Goals as goal

pub returns : goal.returns
unfolding line_of
returns c =
    let answer = puts_word line_end c.put_said-e.ensures c.put_text.ensures (omega arith) in
    let rest = puts_apart c.put_mark-c.ensures c.put_text-d.ensures answer (omega arith) in
    let line = puts_within {n = 112} (puts_apart c.put_decimal-a.ensures c.put_text-b.ensures rest (omega arith)) (omega arith) in
    (line.place, line.written, line.short)
