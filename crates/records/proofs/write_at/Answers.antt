use Rattle.records.specs.Tx.{write_at}
use Rattle.records.proofs.write_at.Goals as goal

pub returns : goal.returns
unfolding write_at
returns c = cc
