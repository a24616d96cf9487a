use Rattle.election.proofs.Gathering.{led_held}
use Rattle.election.proofs.election_of.Goals as goal

pub returns : goal.returns
returns c = led_held _ _ _ _ _ _ c.lowest-l.ensures.listed c.leader_of.ensures c.majority.ensures
