use Rattle.writing.proofs.Laid.{head_puts}
use Rattle.writing.proofs.put_head.Goals as goal

pub returns : goal.returns
returns c = search head_puts
