use Rattle.lines.proofs.Putting.{puts_text, puts_both, puts_within}
use Rattle.lines.specs.Lines.{answer_text, decided_blank}
use native.Mathlib.Omega.{arith}
use Rattle.lines.proofs.put_answer.Goals as goal

pub returns-in-Voted : goal.returns-in-Voted
unfolding answer_text
returns-in-Voted c = rw c.in-Voted.is (puts_within c.put_vote.ensures (omega arith))

pub returns-in-Decided : goal.returns-in-Decided
unfolding answer_text
returns-in-Decided c =
    let h = puts_text {t = decided_blank} {n = 8} c.put_text-a.ensures (omega arith) in
    rw c.in-Decided.is
    (puts_within (puts_both h c.put_decision.ensures (omega arith)) (omega arith))

pub returns-in-Logged : goal.returns-in-Logged
unfolding answer_text
returns-in-Logged c = rw c.in-Logged.is (puts_within c.put_logged.ensures (omega arith))

pub returns-in-Done : goal.returns-in-Done
unfolding answer_text
returns-in-Done c = rw c.in-Done.is (puts_text c.put_text.ensures (omega arith))

pub returns-in-Found : goal.returns-in-Found
unfolding answer_text
returns-in-Found c = rw c.in-Found.is c.put_found.ensures

pub returns-in-Refused : goal.returns-in-Refused
unfolding answer_text
returns-in-Refused c = rw c.in-Refused.is (puts_within c.put_refusal.ensures (omega arith))

pub returns-in-Elected : goal.returns-in-Elected
unfolding answer_text
returns-in-Elected c = rw c.in-Elected.is (puts_within c.put_elected.ensures (omega arith))

pub returns-in-Raised : goal.returns-in-Raised
unfolding answer_text
returns-in-Raised c = rw c.in-Raised.is (puts_text c.put_text-in-Raised.ensures (omega arith))
