use Rattle.std.proofs.Common.{rules}
use Rattle.writing.proofs.Laid.{list_puts}
use Rattle.writing.proofs.put_list.Goals as goal

pub returns : goal.returns
returns c = list_puts c.args.l (search rules) c.put_list_head-at.ensures c.put_view-at.ensures.0 c.put_pairs.ensures
