use Rattle.lines.proofs.Putting.{puts_text, puts_both}
use Rattle.lines.specs.Lines.{vote_text, abort_blank}
use native.Mathlib.Omega.{arith}
use Rattle.lines.proofs.put_vote.Goals as goal

pub returns-in-None : goal.returns-in-None
unfolding vote_text
returns-in-None c = rw c.in-None.is (puts_text c.put_text.ensures (omega arith))

pub returns-in-Commit : goal.returns-in-Commit
unfolding vote_text
returns-in-Commit c = rw c.in-Commit.is (puts_text c.put_text-in-Commit.ensures (omega arith))

pub returns-in-Abort : goal.returns-in-Abort
unfolding vote_text
returns-in-Abort c =
    rw (c.in-Abort.is, ← c.number.ensures)
    (puts_both (puts_text {t = abort_blank} {n = 6} c.put_text-a.ensures (omega arith)) c.put_decimal.ensures (omega arith))

pub returns-in-Waiting : goal.returns-in-Waiting
unfolding vote_text
returns-in-Waiting c = rw c.in-Waiting.is (puts_text c.put_text-in-Waiting.ensures (omega arith))
