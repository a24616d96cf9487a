use Rattle.table.specs.Table.{state_at}
use Rattle.table.proofs.state_of.Goals as goal

pub returns : goal.returns
unfolding state_at
returns c = cc
