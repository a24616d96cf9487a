use Rattle.lines.specs.Lines.{version_text}
use Rattle.lines.proofs.Putting.{puts_apart}
use native.Mathlib.Omega.{arith}
use Rattle.lines.proofs.put_version.Goals as goal

pub returns : goal.returns
unfolding version_text
returns c =
    puts_apart c.put_decimal-a.ensures c.put_text-b.ensures c.put_decimal.ensures (omega arith)
