use Rattle.writing.proofs.Laid.{list_head_puts}
use Rattle.writing.proofs.put_list_head.Goals as goal

pub returns : goal.returns
returns c = search list_head_puts
