use Rattle.std.proofs.Common.{take}
use Rattle.records.specs.Views.{zero_ballot}
use Rattle.sheet.proofs.Below.{Noted}
use Rattle.election.specs.Elections.{ballots_on}
use Rattle.election.proofs.lowest.Given as goal

abbrev pub invariant-loop-b : goal.invariant-loop-b
invariant-loop-b l = Noted (λ b. take l.need (ballots_on l.s b)) zero_ballot 26 l.ballots l.count l.b
