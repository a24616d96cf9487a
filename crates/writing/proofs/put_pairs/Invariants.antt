use Rattle.writing.proofs.Laid.{Filling, two}
use Rattle.writing.proofs.put_pairs.Given as goal

abbrev pub invariant-loop-pair : goal.invariant-loop-pair
invariant-loop-pair l = Filling two l.pairs 2 l.at l.initial.s l.s l.next l.pair-index
