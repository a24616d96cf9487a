use Rattle.writing.proofs.Laid.{puts_both}
use Rattle.records.specs.Writing.{listed_bytes}
use Rattle.writing.proofs.put_listed.Goals as goal

pub returns : goal.returns
unfolding listed_bytes
returns c = search puts_both
