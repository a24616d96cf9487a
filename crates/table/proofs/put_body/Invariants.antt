use Rattle.table.proofs.Copying.{Copied}
use Rattle.table.proofs.put_body.Given as goal

abbrev pub invariant-loop-i : goal.invariant-loop-i
invariant-loop-i l = Copied l.initial.s l.body l.s l.i
