use Rattle.lines.proofs.Putting.{puts_text}
use Rattle.lines.specs.Lines.{said_text}
use native.Mathlib.Omega.{arith}
use Rattle.lines.proofs.put_said.Goals as goal

pub returns-in-Taken : goal.returns-in-Taken
unfolding said_text
returns-in-Taken c = rw c.in-Taken.is (puts_text c.put_text.ensures (omega arith))

pub returns-in-Answered : goal.returns-in-Answered
unfolding said_text
returns-in-Answered c = rw c.in-Answered.is c.put_answer.ensures
