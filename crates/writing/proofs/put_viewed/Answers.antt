use Rattle.writing.proofs.Laid.{viewed_puts}
use Rattle.writing.proofs.put_viewed.Goals as goal

pub returns : goal.returns
returns c = search viewed_puts
