use Rattle.lines.specs.Lines.{found_text}
use Rattle.lines.proofs.Putting.{puts_apart}
use native.Mathlib.Omega.{arith}
use Rattle.lines.proofs.put_found.Goals as goal

pub returns : goal.returns
unfolding found_text
returns c =
    puts_apart c.put_version-a.ensures c.put_text-b.ensures c.put_version.ensures (omega arith)
