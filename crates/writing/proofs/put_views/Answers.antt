use Rattle.std.proofs.Common.{rules}
use Rattle.writing.proofs.Laid.{views_puts}
use Rattle.writing.proofs.put_views.Goals as goal

pub returns : goal.returns
returns c = views_puts c.args.k c.args.l (search rules) c.put_led-at.ensures.0 c.put_byte-at.ensures c.put_ballots.ensures
