use Rattle.records.specs.Views.{zero_ballot}
use Rattle.sheet.proofs.Below.{Noted}
use Rattle.election.specs.Telling.{told_below}
use Rattle.election.proofs.list_told.Given as goal

abbrev pub invariant-loop-b : goal.invariant-loop-b
invariant-loop-b l = Noted (told_below l.told l.views) zero_ballot 26 l.ballots l.count l.b
