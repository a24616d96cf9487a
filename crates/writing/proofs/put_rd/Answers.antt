use Rattle.writing.proofs.Laid.{puts_then}
use Rattle.records.specs.Writing.{rd_bytes}
use Rattle.writing.proofs.put_rd.Goals as goal

pub returns : goal.returns
unfolding rd_bytes
returns c = search puts_then
