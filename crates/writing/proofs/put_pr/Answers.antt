use Rattle.writing.proofs.Laid.{puts_then}
use Rattle.records.specs.Writing.{pr_bytes}
use Rattle.writing.proofs.put_pr.Goals as goal

pub returns : goal.returns
unfolding pr_bytes
returns c = search puts_then
