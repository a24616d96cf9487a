use Rattle.low.proofs.Passes.{Raising}
use Rattle.low.proofs.raise.Given as goal

abbrev pub invariant-loop-i : goal.invariant-loop-i
invariant-loop-i l = Raising l.low.0 l.initial.t l.t l.i l.free
