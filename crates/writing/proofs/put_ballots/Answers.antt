use Rattle.std.proofs.Common.{arith}
use Rattle.writing.proofs.Lengths.{ballot_long}
use Rattle.writing.proofs.Laid.{fill_none, fill_more, fill_all, ballots, puts_as}
use Rattle.writing.proofs.put_ballots.Goals as goal

pub loop-ballot-init : goal.loop-ballot-init
loop-ballot-init c = fill_none

pub loop-ballot-preserved : goal.loop-ballot-preserved
loop-ballot-preserved c = fill_more c.loop-ballot.invariant _ c.requires (omega arith) (ballot_long _ _) c.put_ballot-next.ensures

pub returns : goal.returns
returns c = puts_as (ballots c.args.k _) (fill_all c.loop-ballot.invariant (omega arith))
