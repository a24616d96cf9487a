use Rattle.lines.proofs.Putting.{puts_text}
use Rattle.lines.specs.Lines.{decision_text}
use native.Mathlib.Omega.{arith}
use Rattle.lines.proofs.put_decision.Goals as goal

pub returns-in-Commit : goal.returns-in-Commit
unfolding decision_text
returns-in-Commit c = rw c.in-Commit.is (puts_text c.put_text.ensures (omega arith))

pub returns-in-Abort : goal.returns-in-Abort
unfolding decision_text
returns-in-Abort c = rw c.in-Abort.is (puts_text c.put_text-in-Abort.ensures (omega arith))
