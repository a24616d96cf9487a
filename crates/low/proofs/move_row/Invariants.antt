use Rattle.low.proofs.Moving.{Copied}
use Rattle.low.proofs.move_row.Given as goal

abbrev pub invariant-loop-j : goal.invariant-loop-j
invariant-loop-j l = Copied l.initial.t l.t l.from l.to l.j
