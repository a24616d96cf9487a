use Rattle.writing.proofs.Laid.{puts_both}
use Rattle.writing.proofs.put_item.Goals as goal

pub returns : goal.returns
returns c = search puts_both
