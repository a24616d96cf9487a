use Rattle.records.specs.Tx.{read_at}
use Rattle.records.proofs.read_at.Goals as goal

pub returns : goal.returns
unfolding read_at
returns c = cc
