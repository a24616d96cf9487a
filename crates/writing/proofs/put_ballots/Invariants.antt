use Rattle.records.specs.Views.{ballot_len, ballot_bytes}
use Rattle.writing.proofs.Laid.{Filling}
use Rattle.writing.proofs.put_ballots.Given as goal

abbrev pub invariant-loop-ballot : goal.invariant-loop-ballot
invariant-loop-ballot l = Filling (ballot_bytes l.k) l.ballots (ballot_len l.k) l.at l.initial.s l.s l.next l.ballot-index
